-- What a line of the list says. Assumes nothing.
pub mod Line
