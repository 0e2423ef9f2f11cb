-- The change requests hold of the definitions. Assumes nothing.
use Prim.Native.Nat.{◌*◌, ◌^◌}
use mathlib.Core.Path.{◌≡◌, refl, sym, ◌∙◌}
use mathlib.Core.Bool.{Bool, true, false}
use mathlib.Core.Option.{some}
use lib.IntN.{pos}
use native.Mathlib.Nat.{mul-one}
use lib.Ieee.Nearest.{closest}
use borrow.Author.Tests.{lt-ltb}
use Rattle.format.specs.Values.{flag, whole, bind}
use Rattle.format.specs.Numbers.{one_if, unsigned, signed, float}
use Rattle.format.specs.Grammar.Numbers.{stored}
use Rattle.format.specs.Grammar.Picometres.{whole_number_is}
use Rattle.format.specs.Requests.{Sheets, NameChecks, WholeNumbers, Picometres, ChunkNames}
use Rattle.format.specs.Calls.Open.{open_call}
use Rattle.format.proofs.Calls.SheetBytes.{rule_is, sheet_only}
use Rattle.format.proofs.Calls.Sheet.{write_number, write_number_only, write_accepted, write_refused, written, plane_written}
use Rattle.format.proofs.Calls.Sheet.{read_number, read_accepted, read_refused, read_zero, read_taken, turned_away, read_back}
use Rattle.format.proofs.Text.Compared.{as_before, comparison_is, plain_name, looked_most, no_further}
use Rattle.format.proofs.ByExample.DoubleEdges.{minus_zero, last_u64, past_u64, last_i64, past_i64, least_i64, below_i64, fractions, smallest}
use Rattle.format.proofs.Numbers.Wholes.{below_u64, no_u64, unsigned_of, signed_of, unsigned_absent, u32_absent, signed_absent}
use Rattle.format.proofs.Numbers.Closest.{closest_rounds, rounds_only}
use Rattle.format.proofs.Numbers.Picometres.{rounded, double_size, size_is, exact_size, above_read, read_above, in_picometres_once, size_mono}
use Rattle.format.proofs.Numbers.Picometres.{not_above, infinity_endless}
use Rattle.format.proofs.ByExample.DoubleSizes as sizes
use Rattle.format.proofs.ByExample.DoubleSizes.{plain, halfway, half_one, product_rounds, largest}
use Rattle.format.proofs.Calls.Picometres.{picometres_number, picometres_number_only, picometres_accepted, picometres_table, picometres_refused}
use Rattle.format.proofs.Calls.Picometres.{picometres_size, size_once}
use Rattle.format.proofs.Demands.OpenedSize.{opened_size}
use Rattle.format.proofs.Map.NamedTrees.{tree_means}
use Rattle.format.proofs.Demands.Unstated.{counts_as_absent, open_whole, open_typed}
use Rattle.format.proofs.Ground.Stages.{decides_first}
use Rattle.format.proofs.Map.Chunks.{chunk_decides, longer_passes}
use Rattle.format.proofs.Frames.Names.{begins_once}
use Rattle.format.proofs.Demands.FirstAndThird.{third}
use Rattle.format.proofs.Demands.Misnamed.{never_neighbour, map_name_4, plane_named, sheet_named, tree_named_is, picometres_named, open_named}
use Rattle.format.proofs.Demands.Misnamed.{calibration_named, channels_named, channels_never, register_never}

pub sheets : Sheets
sheets = record {
  rule_is = rule_is;
  sheet_only = sheet_only;
  write_number = write_number;
  write_number_only = write_number_only;
  write_accepted = write_accepted;
  write_refused = write_refused;
  written = written;
  plane_written = λ file u scene t c z lent e samples. plane_written file u scene t c z lent samples e;
  read_number = read_number;
  read_accepted = read_accepted;
  read_refused = read_refused;
  read_zero = read_zero;
  read_taken = read_taken;
  turned_away = turned_away;
  read_back = read_back;
}

pub name_checks : NameChecks
name_checks = record {
  as_before = as_before;
  comparison_is = comparison_is;
  plain_name = plain_name;
  looked_most = looked_most;
  no_further = no_further;
}

pub whole_numbers : WholeNumbers
unfolding unsigned signed float bind
whole_numbers = record {
  unsigned_is = λ v n. ((unsigned_of v).only n, (unsigned_of v).holds n);
  signed_is = λ v z. ((signed_of v).only z, (signed_of v).holds z);
  unsigned_absent = unsigned_absent;
  u32_absent = u32_absent;
  signed_absent = signed_absent;
  minus_zero = minus_zero;
  last_u64 = last_u64;
  past_u64 = past_u64;
  last_i64 = last_i64;
  past_i64 = past_i64;
  least_i64 = least_i64;
  below_i64 = below_i64;
  fractions = fractions;
  smallest = smallest;
  flags_stay = flag_read;
  wholes_stay = λ n. (λ h. rw (lt-ltb n (2 ^ 64) h) refl, λ h. rw (lt-ltb n (2 ^ 63) h) refl);
  below_stay = λ n. (refl, λ h. rw (lt-ltb n (2 ^ 63) h) refl);
  doubles_stay = λ x. refl;
  open_whole = open_whole;
  open_typed = open_typed;
  in_fields = λ s r es t. counts_as_absent s es (tree_means s r es t);
}
  where
    flag_read : (b : Bool) → (unsigned (flag b) ≡ some (one_if b)) × (signed (flag b) ≡ some (pos (one_if b)))
    flag_read true = (refl, refl)
    flag_read false = (refl, refl)

pub picometres : Picometres
picometres = record {
  nearest = λ m e n q. (rounded m e n q).nearest;
  ties_to_even = λ m e n q. (rounded m e n q).even_of_two;
  rounded_once = λ a b B. (closest a b, closest_rounds a b B, λ m. rounds_only a b B (closest a b) m (closest_rounds a b B));
  held = λ m e n r h. double_size m e n r ∙ below_u64 n h;
  not_held = λ m e n r h. double_size m e n r ∙ no_u64 n h;
  above_is = λ v. (above_read v, λ (x, e). read_above v x e);
  size_is = size_is;
  size_only = λ v n m. in_picometres_once;
  monotone = λ v w a b c d n m. size_mono;
  exact = exact_size;
  whole_micrometres = λ n N. exact_size (whole (pos n)) n 1 (n * 1_000_000) (whole_number_is stored N) (sym (mul-one (n * 1_000_000)));
  plain = plain;
  halfway = halfway;
  half_one = half_one;
  product_rounds = product_rounds;
  smallest = sizes.smallest;
  last_u64 = sizes.last_u64;
  past_u64 = sizes.past_u64;
  largest = largest;
  not_above = not_above;
  plus_infinity = infinity_endless;
  number = picometres_number;
  number_only = picometres_number_only;
  accepted = picometres_accepted;
  table_zero = picometres_table;
  refused_zero = picometres_refused;
  size = picometres_size;
  size_once = size_once;
  opened_size = opened_size;
}

pub chunk_names : ChunkNames
chunk_names = record {
  one_frame = λ n m a b name. begins_once;
  never_neighbour = never_neighbour;
  chunk_number = λ name s o. decides_first (chunk_decides name s o);
  longer_passes = longer_passes;
  map_name_4 = map_name_4;
  plane_named = plane_named;
  sheet_named = sheet_named;
  tree_named_is = tree_named_is;
  picometres_named = picometres_named;
  open_named = open_named;
  calibration_missing = λ file table e. calibration_named file (open_call file table).summary (third.returns_theirs file table e);
  channels_missing = channels_named;
  channels_never = channels_never;
  register_never = register_never;
}
