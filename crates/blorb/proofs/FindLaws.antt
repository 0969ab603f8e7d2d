-- Where a pair stands: `find` gives the place of the first entry that has it, and the count where there is none; each law goes along the entries.
use mathlib.Core.Path.{◌≡◌, refl, sym, ◌∙◌}
use Prim.Native.Nat.{ℕ, suc, ◌<◌}
use mathlib.Core.List.{List, [], ◌∷◌}
use mathlib.Core.Bool.{Bool, true, false, cond, ◌&&◌, ◌||◌}
use native.Mathlib.Omega.{arith}
use native.Mathlib.Nat.{le_of_suc-le-suc, not-suc-le-zero}
use lib.ListN.{length, get_or}
use lib.Dec.{eqb, ltb}
use borrow.Author.Tests.{eqb-true, lt-ltb, le-ltb, ltb-true, ltb-false}
use Rattle.blorb.specs.Format.{Ref, Chunk}
use Rattle.blorb.specs.Verdict.{pair_in, no_chunk}
use Rattle.blorb.specs.Queries.{find, no_ref}
use Rattle.blorb.specs.Lookup.{missing, here, look_in}
use Rattle.blorb.proofs.Checks.{neither}

pub ltb-suc : (a b : ℕ) → ltb (suc a) (suc b) ≡ ltb a b
ltb-suc a b = go (ltb a b) refl
  where
    go : (x : Bool) → ltb a b ≡ x → ltb (suc a) (suc b) ≡ x
    go true e = lt-ltb (suc a) (suc b) (omega (arith, ltb-true a b e))
    go false e = le-ltb (suc a) (suc b) (omega (arith, ltb-false a b e))

-- a pair that is there has its place below the count
pub pair_found : (u n : ℕ) (rs : List Ref) → pair_in u n rs ≡ ltb (find u n rs) (length rs)
unfolding pair_in find
pair_found u n [] = refl
pair_found u n (r ∷ rs) = go (eqb r.usage u && eqb r.number n) (pair_found u n rs)
  where
    go : (b : Bool) → pair_in u n rs ≡ ltb (find u n rs) (length rs) → b || pair_in u n rs ≡ ltb (cond b 0 (suc (find u n rs))) (suc (length rs))
    go true ih = sym (lt-ltb 0 (suc (length rs)) (omega arith))
    go false ih = ih ∙ sym (ltb-suc (find u n rs) (length rs))

-- the entry that find gives is the one sought
pub find-pair : (u n : ℕ) (rs : List Ref) → find u n rs < length rs → ((get_or rs (find u n rs) no_ref).usage ≡ u) × ((get_or rs (find u n rs) no_ref).number ≡ n)
unfolding find
find-pair u n [] h = absurd (not-suc-le-zero h)
find-pair u n (r ∷ rs) h = go (eqb r.usage u) (eqb r.number n) refl refl h (find-pair u n rs)
  where
    go : (b c : Bool) → eqb r.usage u ≡ b → eqb r.number n ≡ c → cond (b && c) 0 (suc (find u n rs)) < length (r ∷ rs)
        → (find u n rs < length rs → ((get_or rs (find u n rs) no_ref).usage ≡ u) × ((get_or rs (find u n rs) no_ref).number ≡ n))
        → ((get_or (r ∷ rs) (cond (b && c) 0 (suc (find u n rs))) no_ref).usage ≡ u) × ((get_or (r ∷ rs) (cond (b && c) 0 (suc (find u n rs))) no_ref).number ≡ n)
    go true true p q h ih = (eqb-true r.usage u p, eqb-true r.number n q)
    go true false p q h ih = ih (le_of_suc-le-suc h)
    go false c p q h ih = ih (le_of_suc-le-suc h)

-- a pair that no entry has is missing
pub look_missing : (cs : List Chunk) (u n : ℕ) (rs : List Ref) → pair_in u n rs ≡ false → look_in cs u n rs ≡ missing
unfolding look_in pair_in
look_missing cs u n [] h = refl
look_missing cs u n (r ∷ rs) h = let o = neither (eqb r.usage u && eqb r.number n) (pair_in u n rs) h in rw o.0 (look_missing cs u n rs o.1)

-- an entry's pair looks its chunk up, if no earlier entry has it
pub look_find : (cs : List Chunk) (u n : ℕ) (rs : List Ref) → find u n rs < length rs → look_in cs u n rs ≡ here (get_or cs (get_or rs (find u n rs) no_ref).chunk
    no_chunk)
unfolding look_in find
look_find cs u n [] h = absurd (not-suc-le-zero h)
look_find cs u n (r ∷ rs) h = go (eqb r.usage u && eqb r.number n) h (look_find cs u n rs)
  where
    go : (b : Bool) → cond b 0 (suc (find u n rs)) < suc (length rs)
        → (find u n rs < length rs → look_in cs u n rs ≡ here (get_or cs (get_or rs (find u n rs) no_ref).chunk no_chunk))
        → cond b (here (get_or cs r.chunk no_chunk)) (look_in cs u n rs) ≡ here (get_or cs (get_or (r ∷ rs) (cond b 0 (suc (find u n rs))) no_ref).chunk no_chunk)
    go true h ih = refl
    go false h ih = ih (le_of_suc-le-suc h)
