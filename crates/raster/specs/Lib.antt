-- What judging and entering a raster promise.
pub mod RasterParts
