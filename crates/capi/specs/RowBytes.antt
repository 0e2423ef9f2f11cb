-- What an accepted channels call leaves in the lent bytes, by the rules.
use Rattle.std.specs.Prelude.{ℕ, ◌/◌, ◌≡◌, List}
use Rattle.format.specs.Bytes.{zeros, over}
use Rattle.format.specs.Refused.Channels.{Recorded}
use Rattle.format.specs.declared.Channel.{Channel}
use Rattle.format.specs.declared.Summary.{Summary}
use Rattle.layout.specs.Layout.{channel_row_bytes}

-- `out` is what a row of n bytes holds afterwards: as many records of 56 bytes as fit, each as the rules say of the summary u, and zeros behind them
pub record RowRecorded (file : List ℕ) (u : Summary) (n : ℕ) (out : List ℕ) : Type 0 where
  pub records : List Channel
  pub recorded : Recorded file u (n / 56) records
  pub laid : out ≡ over (channel_row_bytes records) (zeros n)
