-- Sizes and bits that a sheet may have.
use Rattle.std.specs.Prelude.{ℕ, ◌≤◌, ◌<◌}
use Rattle.format.specs.Sheets.{sheet_bytes, most_sheet_bytes}
use Rattle.format.specs.Grammar.Attributes.{Bits}

pub record Fits (w h b : ℕ) : Type 0 where
  pub width_some : 0 < w
  pub height_some : 0 < h
  pub bits : Bits b
  pub most : sheet_bytes w h b ≤ most_sheet_bytes
