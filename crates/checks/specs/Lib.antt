-- What the code of the check tells, in the words of the workings; the check's promise is `field`'s
-- own `Finds`.
pub mod Told
