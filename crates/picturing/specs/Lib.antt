-- What the parts of writing and reading a picture promise, and why rows are rasters and sheets.
pub mod Rasters
pub mod RasterLaws
pub mod Parts
