-- A number's tenth part is smaller, so the calls end.
use Rattle.listing.proofs.Page.+decimal.Given as goal

abbrev pub decreases-decimal : goal.decreases-decimal
decreases-decimal l = l.n
