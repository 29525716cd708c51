-- Laws that the functions' proofs share: of a state's arcs as they are read; of the numbers met; of sets of names, which later
-- crates cite; of kept offsets, of tables as read and of areas ready for walks; of marked states, and of walks. Assumes nothing.
pub mod ArcReads
pub mod NameSets
pub mod MetLaws
pub mod KeptLaws
pub mod TableLaws
pub mod ReadyLaws
pub mod Marks
pub mod WalkLaws
