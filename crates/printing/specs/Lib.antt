-- What any program prints: numbers, lines of numbers and refusals; how these stand in an output;
-- that each is printed in one way; and two lines byte by byte.
pub mod Printed
pub mod Parts
pub mod PrintLaws
pub mod PrintSome
pub mod Settled
