-- A number of two halves.
use Rattle.std.specs.Prelude.{ℕ, ◌+◌, ◌*◌, ◌^◌}
use Rattle.scale.specs.declared.Wide.{Wide}

abbrev pub wide : Wide → ℕ
wide w = w.high * 2 ^ 64 + w.low
