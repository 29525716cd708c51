-- What is promised, nearly in the order of docs/SCOPE.md: the fields of books, tables and lists of names and their refusals; tables as
-- automata, written, read and walked; the two families of classes; the prefix tree, joinings and the table of a book; what the calls
-- give back; what is claimed of all that; what the sources say; the listing; the worked days; the edges. Assumes nothing.
pub mod Fields
pub mod Tables
pub mod Classes
pub mod Joinings
pub mod Quotients
pub mod Calls
pub mod Claims
pub mod Sources
pub mod Listing
pub mod WorkedDays
pub mod Edges
