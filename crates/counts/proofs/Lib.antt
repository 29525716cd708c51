-- Why the counts are what is claimed, and why those by the prefix tree are those by walking. Assumes nothing.

-- by walking: the steps of walks, the flow of any table, what rows do in the table built from them
pub mod Steps
pub mod Flow
pub mod Built
-- the state record and the counts file as written, and the rows as a bag
pub mod Places
pub mod Written
pub mod Bags
-- all that is claimed, and counts worked out by hand
pub mod Claims
pub mod Worked
-- by the prefix tree: sums over its states, the arcs that rows pass, bounds, the ends of groups; and that the counts are those by walking
pub mod TreeSums
pub mod Beginnings
pub mod Few
pub mod GroupSums
pub mod Walked
