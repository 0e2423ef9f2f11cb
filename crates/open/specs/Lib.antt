-- what each part of an opening answers
pub mod Parts
