-- What the crates above know of a located chunk: it lies in the file, and the file is accepted and not too long.
use Rattle.std.specs.Prelude.{Result, Ok}
use Rattle.blorb.specs.Refusals.{Refused}
use Rattle.blorb.specs.declared.refusal.Refusal.{Refusal}
use mathlib.Core.Path.{◌≡◌, refl, sym, ap, ◌∙◌}
use Prim.Native.Nat.{ℕ, ◌+◌, ◌*◌, ◌≤◌, ◌<◌}
use mathlib.Core.List.{List, [], ◌∷◌}
use mathlib.Core.Bool.{Bool, true, false}
use native.Mathlib.Omega.{arith}
use lib.ListN.{length, drop, take}
use lib.Seq.{drop-drop}
use lib.Dec.{eqb}
use borrow.Author.Tests.{eqb-true}
use Rattle.blorb.specs.All.{All}
use Rattle.blorb.specs.Bytes.{rd32}
use Rattle.blorb.specs.Format.{sized, size, chunk_in}
use Rattle.blorb.specs.Verdict.{accept}
use Rattle.blorb.specs.Rules.{profile_verdict}
use Rattle.blorb.proofs.Profiles.{plain_adrift}
use Rattle.chunks.specs.Walk.{chunk_from, next_at, chunks_from, walk_from}
use Rattle.chunks.proofs.ChunkLaws.{Whole}
use Rattle.chunks.proofs.StartLaws.{good_ind}
use Rattle.reader.specs.declared.Accepted.{Accepted}
use Rattle.reader.specs.Reading.{read_of, accepted_with}
use Rattle.reader.proofs.Promises.{accepted_is, layout_is, unknown_answers}
use Rattle.locate.specs.Located.{Spot, spot_at, pick_spot, of_type, located_in, located_of, data_at}
use Rattle.locate.specs.declared.Located.{Located}
use Rattle.locate.specs.declared.Located.TheVariants.{Nothing, One, More}
use Rattle.locate.proofs.LocateLaws.{located_no, located_go}

-- a chunk of type t stands at x, with m bytes of data
pub record Stands (f : List ℕ) (t x m : ℕ) : Type 0 where
  pub room : x + 8 + m ≤ length f
  pub type : rd32 (drop x f) ≡ t
  pub field : rd32 (drop (x + 4) f) ≡ m
  pub bytes : data_at f x m ≡ (chunk_from f x).body

abbrev pub Stood : List ℕ → ℕ → Result Located Refusal → Type 0
Stood f t (Ok Nothing) = Unit {0}
Stood f t (Ok (One x m)) = Stands f t x m
Stood f t (Ok (More x m y)) = Stands f t x m × (y < length f)
Stood f t (Refused k p) = Unit {0}

all_stand : (f : List ℕ) (t at : ℕ) → walk_from f at ≡ accept → All (λ (x : Spot). Stands f t x.start x.amount) (of_type t at (chunks_from f at))
unfolding of_type chunk_in size sized
all_stand f t at w =
    good_ind f (λ a cs. All (λ (x : Spot). Stands f t x.start x.amount) (of_type t a cs))
    (λ a h. tt)
    (λ a h v i ih. go a i (eqb (chunk_from f a).type t) refl (of_type t (next_at f a) (chunks_from f (next_at f a))) ih)
    at w
  where
    here : (a : ℕ) → Whole f a → (chunk_from f a).type ≡ t → Stands f t a (length (chunk_from f a).body)
    here a i e =
        let b : length (chunk_from f a).body ≡ rd32 (drop (a + 4) f) = i.bodied in
        let d : rd32 (drop 4 (drop a f)) ≡ rd32 (drop (a + 4) f) = ap rd32 (drop-drop 4 a f) in
        record {
          room = omega (arith, i.inside);
          type = e;
          field = sym b;
          bytes = ap (λ (n : ℕ). take n (drop (a + 8) f)) (b ∙ sym d) ∙ ap (take (rd32 (drop 4 (drop a f)))) (sym (drop-drop 8 a f));
        }

    go : (a : ℕ) → Whole f a → (b : Bool) → eqb (chunk_from f a).type t ≡ b → (xs : List Spot) → All (λ (x : Spot). Stands f t x.start x.amount) xs
        → All (λ (x : Spot). Stands f t x.start x.amount) (pick_spot b (spot_at a (chunk_from f a)) xs)
    go a i true e xs k = (here a i (eqb-true _ _ e), k)
    go a i false e xs k = k

listed_stood : (f : List ℕ) (t : ℕ) (xs : List Spot) → All (λ (x : Spot). Stands f t x.start x.amount) xs → Stood f t (Ok (located_in xs))
listed_stood f t [] k = tt
listed_stood f t (x ∷ []) k = k.0
listed_stood f t (x ∷ (y ∷ ys)) k = (k.0, omega (arith, k.1.0.room))

-- of a file that is not refused
abbrev pub Unrefused : Type 0 → Result Located Refusal → Type 0
Unrefused P (Ok x) = P
Unrefused P (Refused k p) = Unit {0}

module _ (profile : ℕ) (f : List ℕ) (t : ℕ) (r : Result Located Refusal) (e : located_of profile f t ≡ r) where
  abbrev behind : ℕ → List Spot
  behind n = of_type t (24 + 12 * n) (chunks_from f (24 + 12 * n))

  by_reading : (P : Result Located Refusal → Type 0) → ((l n : ℕ) → read_of profile f ≡ accepted_with l n → P (Ok (located_in (behind n))))
      → ((k p : ℕ) → P (Refused k p)) → P r
  by_reading P read refused = rw (← e) (go (read_of profile f) refl)
    where
      go : (v : Result Accepted Refusal) → read_of profile f ≡ v → P (located_of profile f t)
      go (Ok a) h = rw (← located_go profile f t a.length a.count h) (read a.length a.count h)
      go (Refused k p) h = rw (← located_no profile f t k p h) (refused k p)

  -- what is located lies in the file
  pub located_stood : Stood f t r
  located_stood =
      by_reading (Stood f t)
      (λ l n h. listed_stood f t (behind n) (all_stand f t (24 + 12 * n) (layout_is profile f l n h).walks))
      (λ k p. tt)

  of_accepted : (P : Type 0) → ((l n : ℕ) → read_of profile f ≡ accepted_with l n → P) → Unrefused P r
  of_accepted P g = by_reading (Unrefused P) g (λ k p. tt)

  -- the file is not over the limit
  pub located_short : Unrefused (length f ≤ 16777216) r
  located_short = of_accepted (length f ≤ 16777216) (λ l n h. (accepted_is profile f l n h).3)

  -- and accepted
  pub located_accepts : Unrefused (profile_verdict profile f ≡ accept) r
  located_accepts = of_accepted (profile_verdict profile f ≡ accept) (λ l n h. (accepted_is profile f l n h).2)

-- of a file accepted as plain the chunks of a type are the same under ADRIFT (02, P12)
pub plain_located : (f : List ℕ) (t : ℕ) → profile_verdict 0 f ≡ accept → located_of 1 f t ≡ located_of 0 f t
unfolding located_of
plain_located f t h = rw (plain_adrift f h, h)

-- "Refusals: 52 an unknown profile, before all others" (02, P12): whatever type is looked for in whatever file
pub located_unknown : (profile : ℕ) (f : List ℕ) (t : ℕ) → 1 < profile → located_of profile f t ≡ Refused 52 0
located_unknown profile f t h = sym (located_no profile f t 52 0 (unknown_answers profile f h).0)
