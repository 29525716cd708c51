-- What the contracts of counting cite: the passes summed in cells, and what is to be written of them. Assumes nothing.
pub mod PassCells
pub mod Ready
