-- Plans (docs/SCOPE.md, section 11): Written has them as things written down, with their faults and the traces of an element's children;
-- Reading reads them byte by byte, as the code does; Logs has the tags as bytes; Calls has the rows that a call gives; Claims says what the
-- theory proves of the reading; WorkedPlans has examples. Assumes nothing.
pub mod Written
pub mod Reading
pub mod Logs
pub mod Calls
pub mod Claims
pub mod WorkedPlans
