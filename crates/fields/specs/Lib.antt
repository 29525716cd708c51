-- What the reader's contracts cite, over the definitions of model: the file that a place stands for, and what the reader's answers say.
-- Assumes nothing.
pub mod Places
