-- the size that a calibration tree has, before it is judged; the step that two ends and a count give
pub mod Size
pub mod Span
