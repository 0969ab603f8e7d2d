-- Whether the bytes name a usage is the definition's test, in both cases.
use Prim.Native.Nat.{ℕ}
use mathlib.Core.Path.{◌≡◌, sym, ◌∙◌}
use Rattle.std.specs.Prelude.{Option, Some, None}
use Rattle.std.specs.Option.{is_some}
use Rattle.blorb.specs.declared.Usage.{Usage}
use Rattle.blorb.specs.Usages.{usage_of}
use Rattle.blorb.specs.Verdict.{known_usage_of}
use Rattle.blorb.proofs.UsageLaws.{known_is, known_not}
use Rattle.undoing.proofs.known_usage.Goals as goal

known : (u : ℕ) (o : Option Usage) → usage_of u ≡ o → is_some o ≡ known_usage_of u
known u (Some k) e = sym (known_is u k e).0
known u None e = sym (known_not u e)

pub returns : goal.returns
returns c = c.is_some.ensures ∙ known c.args.usage _ (sym c.of_code.ensures)
