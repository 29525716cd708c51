-- Why heads and links give lists of arcs by ascending key, and what the queue holds; why joining its pairs until none is left
-- ends closed, in one go and round by round. Assumes nothing.
pub mod ListLaws
pub mod PlaceLaws
pub mod PutLaws
pub mod PopLaws
pub mod QueueLaws
pub mod FillLaws
pub mod MergeLaws
pub mod SizeLaws
pub mod ReachLaws
pub mod KindLaws
pub mod SettleLaws
pub mod ForkLaws
pub mod ForkRounds
pub mod SearchLaws
