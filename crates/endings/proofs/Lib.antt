-- Why the claims of specs/ hold. Assumes nothing.

-- admitted words name by name; how many names suffice from a state; the levels of states
pub mod NameByName
pub mod Within
pub mod Levels
-- by words: the table without the arcs to states that lead to no end, and its walks; how far a walk comes, over any table; how it ends;
-- that one answer alone tells what a walk shall tell; which rows begin an admitted row; and that a walk tells it
pub mod Trimmed
pub mod Longest
pub mod Outcomes
pub mod Determined
pub mod Begins
pub mod ByWords
-- states that rise; tables whose states all lead to an end; the tables of books
pub mod Rising
pub mod AllLive
pub mod Built
-- all that is claimed, and walks worked out by hand
pub mod Claims
pub mod Worked
