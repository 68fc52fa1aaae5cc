-- What turning a raster onto a sheet asks, and why its rows are the sheet.
pub mod Turning
pub mod TurningLaws
pub mod Stamping
