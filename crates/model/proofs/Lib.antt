-- Why the claims of specs/ hold, one file for each step of the argument, each after those that it cites. Assumes nothing.

-- the notions of the argument; partitions, walks between groups, and the rules as facts
pub mod Notions
pub mod GroupCases
pub mod Groups
pub mod Transitions
pub mod Routes
pub mod Contexts
pub mod Rules
-- closure: joinings stay inside closed relations, and the kernel of a full one is closed
pub mod Sound
pub mod Complete
pub mod Functions
-- the prefix tree, the set of its rows, and the end of its joining
pub mod Trees
pub mod DifferentRows
pub mod Ends
-- numbering: arcs in order, their names as a set of bits, groups in first-met order, what a table admits, walks over any table
-- and the states that they reach, and the numbering law
pub mod Arcs
pub mod NameSets
pub mod Meeting
pub mod FirstMet
pub mod Admits
pub mod TableWalks
pub mod Reached
pub mod Paired
pub mod Numbering
-- reading: states that can be written, what one field and one turn of reading tell, tables read back and rewritten, lists of
-- names and the books that rows make of them, and the states of accepted tables
pub mod Writable
pub mod MetOrder
pub mod ArcCount
pub mod WritableStates
pub mod FieldLaws
pub mod CallLaws
pub mod Turns
pub mod StateBodies
pub mod Books
pub mod NameNumbers
pub mod LowNumbers
pub mod ReadBack
pub mod WrittenLengths
pub mod Rewriting
pub mod NameLists
pub mod RowBooks
pub mod Reading
pub mod TableBodies
-- demands: all full joinings have one table, where the words of the prefix tree lead in it, contextual sets by their automata, the
-- smallest set of the class, and all that is claimed
pub mod Joined
pub mod NodeWalks
pub mod ContextualTables
pub mod InTheClass
pub mod Demands
-- what the sources say: finite sets of words tested, contextual sets told by finitely many words, and the whole
pub mod ContextualRows
pub mod Samples
pub mod Identified
pub mod Sources
-- tables that admit rows of bounded length only, the worked days of docs/SCOPE.md, rows with different first names, and the edges
pub mod Walkable
pub mod WorkedDays
pub mod DifferentFirsts
pub mod Edges
