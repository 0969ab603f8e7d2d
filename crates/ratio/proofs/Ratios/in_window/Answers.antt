-- The four steps of the definition, one after another; the smaller factor has 16 bits, being one of the two.
use Rattle.ratio.proofs.RatioLaws.{smaller_small, ratio_chain}
use Rattle.ratio.proofs.Ratios.in_window.Goals as goal

pub times-factor-requires : goal.times-factor-requires
times-factor-requires c = (smaller_small _ _ _ c.requires.0 c.requires.1 c.smaller_of.ensures, c.requires.2)

pub returns : goal.returns
returns c =
    ratio_chain _ _ _ _ _ _ _ _ _ c.smaller_of.ensures c.times-factor.ensures _ c.at_most.ensures c.limited-raised.ensures _
    c.at_most-2.ensures c.limited.ensures
