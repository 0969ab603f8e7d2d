-- What an accepted file's index is, by the reader's promises; that no pair stands twice in it is said there of any two entries, here along the list.
use mathlib.Core.Path.{◌≡◌, sym}
use Prim.Native.Nat.{ℕ, suc, ◌≤◌, ◌<◌}
use mathlib.Core.List.{List, [], ◌∷◌}
use native.Mathlib.Omega.{arith}
use lib.ListN.{length, get_or, drop}
use Rattle.blorb.specs.Format.{Entry, entries_in}
use Rattle.blorb.specs.Verdict.{accept}
use Rattle.blorb.specs.Rules.{profile_verdict}
use Rattle.blorb.proofs.AllLaws.{all-at}
use Rattle.index.specs.Entries.{place}
use Rattle.reader.specs.Reading.{index_of, read_of, accepted_with, no_entry}
use Rattle.reader.proofs.Promises.{accepted_is, counted, layout_is}
use Rattle.rows.specs.Bridging.{Differ, NoTwice}
use Rattle.rows.proofs.OrderLaws.{pair_not}

no_twice : (es : List Entry) (d : Entry) → ((i j : ℕ) → i < j → j < length es → ((get_or es i d).usage ≡ (get_or es j d).usage)
    × ((get_or es i d).number ≡ (get_or es j d).number) → ⊥) → NoTwice es
unfolding NoTwice
no_twice [] d h = tt
no_twice (e ∷ es) d h = (
  all-at (Differ e) es d (λ j l. pair_not e.usage e.number (get_or es j d) (λ s. h 0 (suc j) (omega arith) (omega arith) (sym s.0, sym s.1))),
  no_twice es d (λ i j l m s. h (suc i) (suc j) (omega arith) (omega arith) s),
)

-- the index of a file that the reader accepts with n entries
pub record Indexed (profile : ℕ) (f : List ℕ) (n : ℕ) : Type 0 where
  pub verdict : profile_verdict profile f ≡ accept
  pub few : n ≤ 4096
  pub room : place n ≤ length f
  pub index : index_of f ≡ entries_in n (drop 24 f)
  pub many : length (index_of f) ≡ n
  pub once : NoTwice (entries_in n (drop 24 f))

pub indexed : (profile : ℕ) (f : List ℕ) (l n : ℕ) → read_of profile f ≡ accepted_with l n → Indexed profile f n
indexed profile f l n e =
    let a = accepted_is profile f l n e in
    let r = layout_is profile f l n e in
    let many : length (index_of f) ≡ n = counted profile f l n e in
    record {
      verdict = a.2;
      few = a.4;
      room = r.room;
      index = r.index;
      many = many;
      once = rw r.index at (no_twice (index_of f) no_entry (λ i j h m. r.once i j h (rw many at m)));
    }
