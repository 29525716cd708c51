-- The theory of plans. Assumes nothing.
-- Runs: reading without its answers
pub mod Runs
-- NameRule: the laws of names that the other files use
pub mod NameRule
-- Rests: what may stand from a place on, so that the whole is a plan
pub mod Rests
-- Elements: an element made of its name and what may follow the name
pub mod Elements
-- StepsBack: one step of reading, from its end to its beginning
pub mod StepsBack
-- Soundness: bytes that can be read to the end are a plan
pub mod Soundness
-- Steps: one step of reading
pub mod Steps
-- MetLaws: the byte where a tag is met
pub mod MetLaws
-- Outcomes: what reading comes to
pub mod Outcomes
-- TagFaults: what a tag is refused for
pub mod TagFaults
-- Numbers: which numbers reading refuses with, and where
pub mod Numbers
-- WrittenRuns: every plan can be read to its end, and the tags met are its tags
pub mod WrittenRuns
-- Completions: what can be read can be completed to a plan
pub mod Completions
-- Rows: the rows of a plan's tags are its traces
pub mod Rows
-- FirstFault: reading tells the first fault of all
pub mod FirstFault
-- KnownChildren: where a plan has no fault, the children of chosen elements are among the names
pub mod KnownChildren
-- WorkedPlans: plans written out as bytes, and what they are read as
pub mod WorkedPlans
