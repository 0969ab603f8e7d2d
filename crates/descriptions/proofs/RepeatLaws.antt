-- 38 and 39 by the first repeated pair and the first bad text: up to the bad text all texts are good, and before the first repeat all pairs are
-- apart, so the entry that comes first decides. A pair is one key, u * 2 ^ 32 + k, since both numbers have 32 bits.
use mathlib.Core.Path.{◌≡◌, refl, sym, ap, ◌∙◌}
use Prim.Native.Nat.{ℕ, zero, suc, ◌+◌, ◌≤◌, ◌<◌}
use mathlib.Core.List.{List, []}
use mathlib.Core.Bool.{true, false}
use native.Mathlib.Omega.{arith}
use lib.ListN.{length, get_or, take, drop}
use lib.Seq.{take-suc}
use Rattle.blorb.specs.Bytes.{rd32, Byte}
use Rattle.blorb.specs.All.{All}
use Rattle.blorb.specs.Sound.{W}
use Rattle.blorb.specs.Verdict.{accept, refuse}
use Rattle.blorb.proofs.Accept.{rd32_small}
use Rattle.blorb.proofs.AllLaws.{all_drop}
use Rattle.blorb.proofs.NumberLaws.{key-eqb}
use Rattle.utf8.specs.Utf8.{good_length_of}
use Rattle.rdes.specs.Rdes.{Desc, text_at, next_at, offset_of, fills_from, descs_from, pair_among, good_text, entries_fault}
use Rattle.rdes.proofs.EntryLaws.{offset-none, offset-next, descs_length, entry_of_lem, entry-room, pair_snoc}
use Rattle.rdes.proofs.FaultLaws.{span, none, Clean, clean_all, clean_38, clean_39, offset-span}
use Rattle.repeats.specs.Keys.{pair_key_of, entry_at, entry_key_of, EntriesInside}
use Rattle.repeats.specs.Repeats.{among, first_repeat_of, Apart}
use Rattle.std.specs.Prelude.{Option, Some, None}
use Rattle.descriptions.specs.declared.entries.BadText.{BadText}
use Rattle.repeats.proofs.Answers.{among_none, answer_at, answer_nothing}
use Rattle.descriptions.specs.Faults.{GoodTo, BadAt, repeated_by, repeat_fault}

module _ (d : List ℕ) where
  -- the entries stand where the search for a repeat finds them
  pub entry_stands : (i : ℕ) → entry_at d 4 i ≡ offset_of d i 4
  unfolding entry_at
  entry_stands zero = sym (offset-none d 4)
  entry_stands (suc i) =
      let s : entry_at d 4 i + (12 + rd32 (drop (entry_at d 4 i + 8) d)) ≡ next_at d (entry_at d 4 i) = omega arith in
      s ∙ ap (next_at d) (entry_stands i) ∙ offset-next d i 4

  -- 38 by the answer of the search
  module _ (base n : ℕ) where
    pub repeat_none : first_repeat_of (entry_key_of d 4) n ≡ None → accept ≡ repeat_fault d base n
    unfolding repeat_fault
    repeat_none e = rw e

    pub repeat_at : (j x : ℕ) → first_repeat_of (entry_key_of d 4) n ≡ Some j → x ≡ offset_of d j 4 → refuse 38 (base + x) ≡ repeat_fault d base n
    unfolding repeat_fault
    repeat_at j x e s = rw (e, s)

  module _ (count : ℕ) (filled : fills_from d count 4 ≡ true) where
    pub entries_inside : (n : ℕ) → n ≤ count → EntriesInside d 4 n
    entries_inside n h i l = rw (entry_stands i) (entry-room d count i 4 (omega arith) filled).header

    module _ (bytes : All Byte d) (base : ℕ) where
      abbrev ds : List Desc
      ds = descs_from d count 4

      abbrev entry : ℕ → Desc
      entry i = get_or ds i none

      small : (at : ℕ) → rd32 (drop at d) < W
      small at = rd32_small (drop at d) (all_drop Byte at d bytes)

      key-is : (i : ℕ) → i < count → entry_key_of d 4 i ≡ pair_key_of (entry i).usage (entry i).number
      unfolding entry_key_of
      key-is i h = rw (entry_stands i, entry_of_lem d count i 4 none h)

      number_small : (i : ℕ) → i < count → (entry i).number < W
      number_small i h = rw (entry_of_lem d count i 4 none h) (small (offset_of d i 4 + 4))

      among-is : (u k i : ℕ) → k < W → i ≤ count → among (entry_key_of d 4) (pair_key_of u k) i ≡ pair_among u k (take i ds)
      unfolding among pair_among
      among-is u k zero h l = refl
      among-is u k (suc i) h l =
          rw (
            key-is i l,
            key-eqb (entry i).usage (entry i).number u k (number_small i l) h,
            among-is u k i h (omega arith),
            take-suc ds i none (rw (descs_length d count 4) l),
          ) (sym (pair_snoc u k (take i ds) (entry i)))

      repeat_is : (i : ℕ) → i < count → among (entry_key_of d 4) (entry_key_of d 4 i) i ≡ pair_among (entry i).usage (entry i).number (take i ds)
      repeat_is i h = ap (λ (v : ℕ). among (entry_key_of d 4) v i) (key-is i h) ∙ among-is (entry i).usage (entry i).number i (number_small i h) (omega arith)

      fresh_at : (n i : ℕ) → n ≤ count → Apart (entry_key_of d 4) 0 n → i < n → pair_among (entry i).usage (entry i).number (take i ds) ≡ false
      unfolding Apart
      fresh_at n i h a l = sym (repeat_is i (omega arith)) ∙ among_none (entry_key_of d 4) (entry_key_of d 4 i) i (λ j m e. a j i (omega arith) m l e)

      clean : (n : ℕ) → n ≤ count → Apart (entry_key_of d 4) 0 n → GoodTo d n → Clean ds n
      clean n h a g = record {
        fresh = λ i l. fresh_at n i h a l;
        good = λ i l. rw (entry_of_lem d count i 4 none (omega arith)) (g i l);
      }

      place_is : (n : ℕ) → n ≤ count → base + 4 + span (take n ds) ≡ base + offset_of d n 4
      place_is n h = omega (arith, offset-span d count n 4 h filled)

      fault_38 : (n j : ℕ) → n ≤ count → first_repeat_of (entry_key_of d 4) n ≡ Some j → GoodTo d j → entries_fault [] (base + 4) ds ≡ refuse 38 (base + offset_of d j 4)
      fault_38 n j h e g =
          let a = answer_at (entry_key_of d 4) n j e in
          let l : j < count = omega (arith, a.0) in
          let i : j < length ds = rw (descs_length d count 4) l in
          clean_38 ds (base + 4) j (clean j (omega arith) a.2 g) i (sym (repeat_is j l) ∙ a.1) ∙ ap (refuse 38) (place_is j (omega arith))

      good_fewer : (n m : ℕ) → m ≤ n → GoodTo d n → GoodTo d m
      good_fewer n m h g i l = g i (omega arith)

      -- all texts are good: the pairs decide
      pub entries-good : GoodTo d count → repeat_fault d base count ≡ entries_fault [] (base + 4) ds
      unfolding repeat_fault
      entries-good g = go (first_repeat_of (entry_key_of d 4) count) refl
        where
          go : (r : Option ℕ) → first_repeat_of (entry_key_of d 4) count ≡ r → repeated_by d base r ≡ entries_fault [] (base + 4) ds
          go (Some j) e =
              let a = answer_at (entry_key_of d 4) count j e in
              sym (fault_38 count j (omega arith) e (good_fewer count j (omega (arith, a.0)) g))
          go None e =
              sym (clean_all ds (base + 4) count (clean count (omega arith) (answer_nothing (entry_key_of d 4) count e) g) (descs_length d count 4))

      -- the text of entry t is the first bad one, and n entries were asked for a repeat: one up to t comes before it; if there is none, and t is among
      -- them, the bad text decides
      module _ (w : BadText) (b : BadAt d count w) (n : ℕ) where
        abbrev t : ℕ
        t = w.entry

        pub entries-again : (k p : ℕ) → repeat_fault d base n ≡ refuse k p → n ≤ t + 1 → refuse k p ≡ entries_fault [] (base + 4) ds
        unfolding repeat_fault
        entries-again k p e h = go (first_repeat_of (entry_key_of d 4) n) refl e
          where
            go : (r : Option ℕ) → first_repeat_of (entry_key_of d 4) n ≡ r → repeated_by d base r ≡ refuse k p → refuse k p ≡ entries_fault [] (base + 4) ds
            go (Some j) f q =
                let a = answer_at (entry_key_of d 4) n j f in
                sym q ∙ sym (fault_38 n j (omega (arith, b.inside)) f (good_fewer t j (omega (arith, a.0)) b.before))
            go None f q = let z : ◌≡◌ {A = ℕ} 0 1 = cc in absurd (omega arith)

        pub entries_bad : repeat_fault d base n ≡ accept → n ≤ count → t < n → refuse 39 (base + w.at + 12 + w.good) ≡ entries_fault [] (base + 4) ds
        unfolding repeat_fault Apart
        entries_bad e h m = go (first_repeat_of (entry_key_of d 4) n) refl e
          where
            go : (r : Option ℕ) → first_repeat_of (entry_key_of d 4) n ≡ r → repeated_by d base r ≡ accept
                → refuse 39 (base + w.at + 12 + w.good) ≡ entries_fault [] (base + 4) ds
            go (Some j) f q = let z : ◌≡◌ {A = ℕ} 0 1 = cc in absurd (omega arith)
            go None f q =
                let a = answer_nothing (entry_key_of d 4) n f in
                let l : t < count = b.inside in
                let i : t < length ds = rw (descs_length d count 4) l in
                let x : (entry t).text ≡ text_at d w.at = rw (entry_of_lem d count t 4 none l, b.place) in
                let c : Clean ds t = clean t (omega arith) (λ i j z k o. a i j z k (omega arith)) b.before in
                let new = fresh_at n t h a m in
                let v : base + 4 + span (take t ds) + 12 + good_length_of (entry t).text ≡ base + w.at + 12 + w.good
                = rw (x, ← b.measured, b.place) (omega (arith, place_is t (omega arith))) in
                sym (clean_39 ds (base + 4) t c i new (ap good_text x ∙ b.bad) ∙ ap (refuse 39) v)
