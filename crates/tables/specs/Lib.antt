-- What the contracts of tables cite, over the definitions of model: one state's field; where the fields stand; a table accepted; a walk.
-- Assumes nothing.
pub mod Arcs
pub mod KeptFields
pub mod Accepting
pub mod Walking
