-- `narrow_fields`: an infinity, a NaN, nothing left.
use Rattle.number.proofs.Narrowing.{inf_fields, nan_fields, tiny_fields}
use Rattle.number.proofs.narrow_fields.Goals as goal

pub returns-then-digits-eq0 : goal.returns-then-digits-eq0
returns-then-digits-eq0 c = inf_fields c.args.exponent c.args.digits c.requires.digits_fit c.if-exponent-eq2047.true c.if-digits-eq0.true

pub returns-else-digits-eq0 : goal.returns-else-digits-eq0
returns-else-digits-eq0 c = nan_fields c.args.exponent c.args.digits c.requires.digits_fit c.if-exponent-eq2047.true c.if-digits-eq0.false

pub returns-then-exponent-lt871 : goal.returns-then-exponent-lt871
returns-then-exponent-lt871 c = tiny_fields c.args.exponent c.args.digits c.requires.digits_fit c.if-exponent-lt871.true
