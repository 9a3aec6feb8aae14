-- What a file gives to one who asks for a part of it.
pub mod Contents
