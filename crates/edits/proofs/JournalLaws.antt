-- The last record of a journal is the one written last.
use mathlib.Core.Path.{◌≡◌, refl, sym}
use Prim.Native.Nat.{ℕ, ◌+◌, ◌-◌, ◌≤◌, ◌<◌}
use mathlib.Core.List.{List, [], ◌++◌, append_assoc, append-nil}
use mathlib.Core.Bool.{true}
use native.Mathlib.Omega.{arith}
use lib.ListN.{length, take, drop, length-append}
use lib.Seq.{take_at, drop_at}
use borrow.Author.Tests.{eq-eqb, le-leb}
use Rattle.blorb.specs.Bytes.{be32, rd32}
use Rattle.blorb.proofs.ByteLaws.{length-be32, rd32-be32}
use Rattle.blorb.specs.Sound.{W}
use Rattle.edits.specs.Journal.{Rec, rec_body, rec_bytes, trailer, rec_in, last_body, last_rec, zeros, well_formed}

pub record RecOk (r : Rec) : Type 0 where
  pub kind_low : 1 ≤ r.kind
  pub kind_high : r.kind ≤ 5
  pub usage_fits : r.usage < W
  pub number_fits : r.number < W
  pub place_fits : r.place < W
  pub start_fits : r.start < W
  pub type_fits : r.type < W
  pub body_fits : 25 + length r.body < W
  pub zeros_ok : zeros r ≡ true

pub length-rec_body : (r : Rec) → length (rec_body r) ≡ 25 + length r.body
unfolding rec_body
length-rec_body r = simp (length-append, length-be32) (omega arith)

pub length-rec_bytes : (r : Rec) → length (rec_bytes r) ≡ 29 + length r.body
unfolding rec_bytes
length-rec_bytes r = simp (length-append, length-be32, length-rec_body) (omega arith)

-- the fields of what stands before the trailer
module _ (r : Rec) (ok : RecOk r) where
  read-body : (rec_in (rec_body r) ≡ r) × (rd32 (drop 21 (rec_body r)) ≡ length r.body)
  unfolding rec_in rec_body be32
  read-body =
      let t6 : List ℕ = be32 (length r.body) ++ r.body in
      let t5 : List ℕ = be32 r.type ++ t6 in
      let t4 : List ℕ = be32 r.start ++ t5 in
      let t3 : List ℕ = be32 r.place ++ t4 in
      let t2 : List ℕ = be32 r.number ++ t3 in (
        λ i. record {
          kind = r.kind;
          usage = rd32-be32 r.usage t2 ok.usage_fits i;
          number = rd32-be32 r.number t3 ok.number_fits i;
          place = rd32-be32 r.place t4 ok.place_fits i;
          start = rd32-be32 r.start t5 ok.start_fits i;
          type = rd32-be32 r.type t6 ok.type_fits i;
          body = r.body;
        },
        rd32-be32 (length r.body) r.body (omega (arith, ok.body_fits)),
      )

  module _ (p : List ℕ) where
    -- the trailer, and what stands before it
    split : p ++ rec_bytes r ≡ (p ++ rec_body r) ++ be32 (25 + length r.body)
    unfolding rec_bytes
    split = sym (append_assoc p (rec_body r) (be32 (25 + length r.body)))

    long : length (p ++ rec_bytes r) ≡ length p + (29 + length r.body)
    long = simp (length-append, length-rec_bytes)

    before : length (p ++ rec_body r) ≡ length (p ++ rec_bytes r) - 4
    before = simp (length-append, length-rec_bytes, length-rec_body) (omega arith)

    trailer_of : trailer (p ++ rec_bytes r) ≡ 25 + length r.body
    unfolding trailer
    trailer_of =
        let e : drop (length (p ++ rec_bytes r) - 4) (p ++ rec_bytes r) ≡ be32 (25 + length r.body) ++ []
        = rw (append-nil (be32 (25 + length r.body)), ← before, split) (drop_at (p ++ rec_body r) (be32 (25 + length r.body)) (length (p ++ rec_body r))
        refl) in
        rw e (rd32-be32 (25 + length r.body) [] ok.body_fits)

    last_body_lem : last_body (p ++ rec_bytes r) ≡ rec_body r
    unfolding last_body
    last_body_lem =
        let e : take (length (p ++ rec_bytes r) - 4) (p ++ rec_bytes r) ≡ p ++ rec_body r
        = rw (← before, split) (take_at (p ++ rec_body r) (be32 (25 + length r.body)) (length (p ++ rec_body r)) refl) in
        rw (trailer_of, e) (drop_at p (rec_body r) (length (p ++ rec_bytes r) - (4 + (25 + length r.body))) (omega (arith, long)))

    pub last_rec_lem : last_rec (p ++ rec_bytes r) ≡ r
    unfolding last_rec
    last_rec_lem = rw last_body_lem read-body.0

    pub well_formed_lem : well_formed (p ++ rec_bytes r) ≡ true
    unfolding well_formed
    well_formed_lem =
        rw (
          last_rec_lem,
          trailer_of,
          last_body_lem,
          read-body.1,
          ok.zeros_ok,
          le-leb 1 r.kind ok.kind_low,
          le-leb r.kind 5 ok.kind_high,
          le-leb 29 (length (p ++ rec_bytes r)) (omega (arith, long)),
          le-leb 25 (25 + length r.body) (omega arith),
          le-leb (25 + length r.body) (length (p ++ rec_bytes r) - 4) (omega (arith, long)),
          eq-eqb (25 + length r.body) (25 + length r.body) refl,
        )
