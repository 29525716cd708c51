-- What the writer's contracts cite: a writing into a lent output, and the bytes of a state field's head and of an arc. Assumes nothing.
pub mod Writing
