-- 02, P7: "A list whose pairs are all in the index, written and then read as the one 'RDes' of an accepted file, has the same pairs and texts in the same
-- order": by entry and by pair. What is written has no fault of its own, so nothing is asked of the verdict on the texts.
use Rattle.std.specs.Prelude.{Some, Ok}
use mathlib.Core.Path.{◌≡◌, refl, sym, ap, ◌∙◌}
use Prim.Native.Nat.{ℕ, zero, suc, ◌+◌, ◌%◌, ◌≤◌, ◌<◌}
use mathlib.Core.List.{List, [], ◌∷◌, ◌++◌, append_assoc}
use mathlib.Core.Bool.{true, false, ◌&&◌}
use native.Mathlib.Omega.{arith}
use native.Mathlib.Nat.{not-suc-le-zero}
use lib.ListN.{length, take, drop, get_or, replicate, length-drop, take-append-drop}
use lib.Seq.{drop-drop, take-take, take_at, length-take-le}
use lib.Dec.{eqb}
use borrow.Author.Tests.{lt-ltb, le-ltb, eq-eqb}
use Rattle.blorb.proofs.Checks.{neither}
use Rattle.blorb.specs.Refusals.{Refused, answer_by}
use Rattle.blorb.proofs.RefusalLaws.{not_refused}
use Rattle.blorb.specs.Bytes.{be32, rd32}
use Rattle.blorb.specs.Sound.{W}
use Rattle.blorb.specs.Format.{chunk_bytes, chunk_of, size}
use Rattle.blorb.specs.Verdict.{Verdict, accept, refuse, pair_in}
use Rattle.blorb.proofs.ByteLaws.{rd32-be32, drop-be32, drop_two}
use Rattle.blorb.proofs.Codec.{length-chunk_bytes}
use Rattle.blorb.specs.Model.{model}
use Rattle.rdes.specs.Rdes.{RDes, Desc, desc, body_of, usage_at, number_at, size_at, text_at, next_at, offset_of, fills_from, descs_from, pair_among, chunk_fault}
use Rattle.rdes.proofs.EntryLaws.{entry-room, entry_of_lem, text-length, fills-all}
use Rattle.rdes.proofs.FaultLaws.{none}
use Rattle.rdes.proofs.ReadBack.{read_back}
use Rattle.locate.specs.Located.{located_of, data_at}
use Rattle.locate.specs.declared.Located.TheVariants as located
use Rattle.locate.proofs.Promises.{located_stood}
use Rattle.descriptions.specs.Texts.{rdes_verdict, described_of, told_with, told_of, or_22}
use Rattle.descriptions.proofs.Telling.{tell-first}
use Rattle.described.specs.ReadsBack.{Gives, Tells, ReadsBack}
use Rattle.describing.specs.List.{usage_of, number_of, row_text, row_at, rows_from, count_of, list_of}
use Rattle.describing.specs.Writing.{repeated, whole_size, write_fault, writing_of, written_of}
use Rattle.describing.proofs.JudgeLaws.{row_told, rows_told}
use Rattle.describing.proofs.ChunkLaws.{length-rows}
use Rattle.describing.proofs.Taken.{rows_get, rows_fine, fit, short, body_short, written_taken}

-- a part of a part
inner : (s a m : ℕ) (l : List ℕ) → a + s ≤ m → take s (drop a (take m l)) ≡ take s (drop a l)
inner s zero m l h = take-take s m l (omega arith)
inner s (suc a) zero l h = absurd (omega arith)
inner s (suc a) (suc m) [] h = refl
inner s (suc a) (suc m) (x ∷ l) h = inner s a m l (omega arith)

-- a pair that is not among these is not that of any of them
not_among : (u k : ℕ) (es : List Desc) (j : ℕ) (z : Desc) → pair_among u k es ≡ false → j < length es
    → (eqb (get_or es j z).usage u && eqb (get_or es j z).number k) ≡ false
unfolding pair_among
not_among u k [] j z e h = absurd (not-suc-le-zero h)
not_among u k (d ∷ es) zero z e h = (neither (eqb d.usage u && eqb d.number k) (pair_among u k es) e).0
not_among u k (d ∷ es) (suc j) z e h = not_among u k es j z (neither (eqb d.usage u && eqb d.number k) (pair_among u k es) e).1 (omega arith)

module _ (rows texts : List ℕ) (room : ℕ) (small : (i : ℕ) → get_or rows i 0 < W) (e : write_fault rows texts room ≡ accept)
    (profile : ℕ) (f : List ℕ) (x m : ℕ) (one : located_of profile f RDes ≡ Ok (located.One x m)) (held : data_at f x m ≡ body_of (list_of rows texts)) where
  good : rdes_verdict profile f ≡ accept
  unfolding rdes_verdict
  good = rw one (ap (λ (d : List ℕ). chunk_fault d x) held ∙ written_taken rows texts room small e x)

  counted : rd32 (data_at f x m) ≡ count_of rows
  counted =
      ap rd32 held ∙ (read_back (list_of rows texts) (fit rows texts room small e) (short rows texts room small e)).0 ∙ length-rows rows texts (count_of rows) 0

  entries : descs_from (data_at f x m) (count_of rows) 4 ≡ list_of rows texts
  entries =
      ap (λ (n : ℕ). descs_from (data_at f x m) n 4) (sym counted)
      ∙ rw held (read_back (list_of rows texts) (fit rows texts room small e) (short rows texts room small e)).1

  filled : fills_from (data_at f x m) (count_of rows) 4 ≡ true
  filled =
      ap (λ (n : ℕ). fills_from (data_at f x m) n 4) (sym counted)
      ∙ rw held (fills-all (body_of (list_of rows texts)) (read_back (list_of rows texts) (fit rows texts room small e) (short rows texts room small e)).2).1

  long : length (data_at f x m) ≡ m
  long = let s = located_stood profile f RDes (Ok (located.One x m)) one in length-take-le m (drop (x + 8) f) (simp length-drop (omega (arith, s.room)))

  module _ (i : ℕ) (h : i < count_of rows) where
    abbrev at : ℕ
    at = offset_of (data_at f x m) i 4

    entry-is : desc (usage_at (data_at f x m) at) (number_at (data_at f x m) at) (text_at (data_at f x m) at) ≡ row_at rows texts i
    entry-is =
        let z : 0 + i ≡ i = omega arith in
        sym (entry_of_lem (data_at f x m) (count_of rows) i 4 none h) ∙ ap (λ (l : List Desc). get_or l i none) entries
        ∙ rows_get rows texts (count_of rows) 0 i none h ∙ ap (row_at rows texts) z

    inside : next_at (data_at f x m) at ≤ length (data_at f x m)
    inside = (entry-room (data_at f x m) (count_of rows) i 4 h filled).text

    usage_is : usage_at (data_at f x m) at ≡ usage_of rows i
    usage_is = ap (λ (d : Desc). d.usage) entry-is

    number_is : number_at (data_at f x m) at ≡ number_of rows i
    number_is = ap (λ (d : Desc). d.number) entry-is

    size_is : size_at (data_at f x m) at ≡ length (row_text rows texts i)
    size_is = sym (text-length (data_at f x m) at inside) ∙ ap (λ (d : Desc). length d.text) entry-is

    -- the text's bytes in the file
    text-is : take (length (row_text rows texts i)) (drop (x + 8 + at + 12) f) ≡ row_text rows texts i
    text-is =
        let k : x + 8 + at + 12 ≡ x + 8 + (at + 12) = omega arith in
        let q : at + 12 + size_at (data_at f x m) at ≤ m = omega (arith, inside, long) in
        ap (λ (n : ℕ). take n (drop (x + 8 + at + 12) f)) (sym size_is)
        ∙ ap (λ (n : ℕ). take (size_at (data_at f x m) at) (drop n f)) k
        ∙ ap (take (size_at (data_at f x m) at)) (sym (drop-drop (at + 12) (x + 8) f))
        ∙ sym (inner (size_at (data_at f x m) at) (at + 12) m (drop (x + 8) f) q)
        ∙ ap (λ (d : Desc). d.text) entry-is

    gives : Gives profile f i (row_at rows texts i)
    unfolding described_of
    gives =
        let g : i < rd32 (data_at f x m) = rw counted h in
        record { start = x + 8 + at + 12; answer = rw (good, one, lt-ltb i (rd32 (data_at f x m)) g, usage_is, number_is, size_is); text = text-is }

    -- no earlier entry has its pair
    other : (j : ℕ) → j < i → (eqb (usage_of rows j) (usage_of rows i) && eqb (number_of rows j) (number_of rows i)) ≡ false
    other j l =
        let t = (row_told rows texts i (rows_told rows texts (count_of rows) 0 (rows_fine rows texts room small e) i (omega arith) (omega arith))).0 in
        let r : pair_among (usage_of rows i) (number_of rows i) (rows_from rows texts i 0) ≡ false = unfold repeated in t in
        let z : 0 + j ≡ j = omega arith in
        let n = length-rows rows texts i 0 in
        let q : get_or (rows_from rows texts i 0) j none ≡ row_at rows texts j = rows_get rows texts i 0 j none l ∙ ap (row_at rows texts) z in
        rw q at (not_among (usage_of rows i) (number_of rows i) (rows_from rows texts i 0) j none r (omega arith))

  tells : (i : ℕ) → i < count_of rows → pair_in (usage_of rows i) (number_of rows i) (model f).refs ≡ true → Tells profile f (row_at rows texts i)
  unfolding told_of
  tells i h known =
      let hit : (eqb (usage_at (data_at f x m) (at i h)) (usage_of rows i) && eqb (number_at (data_at f x m) (at i h)) (number_of rows i)) ≡ true
      = rw (usage_is i h, number_is i h, eq-eqb (usage_of rows i) (usage_of rows i) refl, eq-eqb (number_of rows i) (number_of rows i) refl) in
      let told = tell-first (usage_of rows i) (number_of rows i) (data_at f x m) (x + 8) (count_of rows) 4 i h
      (λ j l. rw (usage_is j (omega arith), number_is j (omega arith)) (other i h j l)) hit in
      record { start = x + 8 + at i h + 12; answer = rw (good, one, known, counted) (ap or_22 (told ∙ ap (λ n. Some (told_with (x + 8 + at i h + 12) n)) (size_is i h))); text = text-is i h }

  no_more : (i : ℕ) → count_of rows ≤ i → described_of profile f i ≡ Refused 22 0
  unfolding described_of
  no_more i h = let g : rd32 (data_at f x m) ≤ i = rw counted h in rw (good, one, le-ltb i (rd32 (data_at f x m)) g)

  -- the list in the file's one 'RDes'
  pub reads_back : ReadsBack profile f rows texts
  reads_back = record { entry = gives; no_more = no_more; pair = tells }

-- the same of the bytes that the writer has written: the n bytes at the front of its buffer stand in the file as its one 'RDes'
module _ (rows texts buf : List ℕ) (n : ℕ) (small : (i : ℕ) → get_or rows i 0 < W) (w : writing_of rows texts (length buf) ≡ Ok n) where
  taken : (v : Verdict) (k : ℕ) → answer_by v k ≡ Ok n → (v ≡ accept) × (k ≡ n)
  taken accept k q = (refl, cc)
  taken (refuse a p) k q = absurd (not_refused (sym q))

  accepted : (write_fault rows texts (length buf) ≡ accept) × (whole_size (list_of rows texts) ≡ n)
  unfolding writing_of
  accepted = taken (write_fault rows texts (length buf)) (whole_size (list_of rows texts)) w

  made : take n (written_of rows texts buf) ≡ chunk_bytes (chunk_of RDes (body_of (list_of rows texts)))
  unfolding written_of
  made =
      rw accepted.0
      (take_at (chunk_bytes (chunk_of RDes (body_of (list_of rows texts)))) (drop (whole_size (list_of rows texts)) buf) n
      (length-chunk_bytes (chunk_of RDes (body_of (list_of rows texts))) ∙ (unfold size in accepted.1)))

  module _ (profile : ℕ) (f : List ℕ) (x m : ℕ) (one : located_of profile f RDes ≡ Ok (located.One x m))
      (same : take n (drop x f) ≡ take n (written_of rows texts buf)) where
    behind : List ℕ
    behind = replicate (length (body_of (list_of rows texts)) % 2) 0 ++ drop n (drop x f)

    whole : drop x f ≡ be32 RDes ++ (be32 (length (body_of (list_of rows texts))) ++ (body_of (list_of rows texts) ++ behind))
    unfolding chunk_bytes behind
    whole = sym (take-append-drop n (drop x f)) ∙ ap (λ (l : List ℕ). l ++ drop n (drop x f)) (same ∙ made) ∙ simp append_assoc

    amount : m ≡ length (body_of (list_of rows texts))
    amount =
        sym (located_stood profile f RDes (Ok (located.One x m)) one).field ∙ ap rd32 (sym (drop-drop 4 x f) ∙ ap (drop 4) whole ∙ drop-be32 RDes _)
        ∙ rd32-be32 (length (body_of (list_of rows texts))) _ (body_short rows texts (length buf) small accepted.0)

    held : data_at f x m ≡ body_of (list_of rows texts)
    held =
        ap (take m) (sym (drop-drop 8 x f) ∙ ap (drop 8) whole ∙ drop_two RDes (length (body_of (list_of rows texts))) _)
        ∙ take_at (body_of (list_of rows texts)) behind m (sym amount)

    pub written_back : ReadsBack profile f rows texts
    written_back = reads_back rows texts (length buf) small accepted.0 profile f x m one held
