-- Refusal 21 of an undo, told from the record's numbers and what the reader tells of the present file: one test for each kind.
-- And the length of the file after it.
use mathlib.Core.Path.{◌≡◌, sym, ap, ◌∙◌}
use Prim.Native.Nat.{ℕ, suc, ◌+◌, ◌-◌, ◌<◌}
use mathlib.Core.List.{List}
use mathlib.Core.Bool.{Bool, true, ◌&&◌, not}
use lib.ListN.{length, take, drop}
use lib.Dec.{eqb, leb}
use Rattle.blorb.specs.Layout.{size_of}
use Rattle.blorb.specs.Bytes.{rd32, Byte}
use Rattle.blorb.specs.Tags.{RIdx, Rect}
use Rattle.blorb.specs.Verdict.{verdict, accepted}
use Rattle.blorb.specs.Rules.{allows, rules_of}
use Rattle.blorb.specs.Model.{Model, model, file}
use Rattle.blorb.specs.Queries.{find, ref_at, chunk_at, start}
use Rattle.blorb.specs.All.{All}
use Rattle.blorb.proofs.AllLaws.{all_take, all_drop}
use Rattle.blorb.specs.Sound.{W}
use Rattle.blorb.proofs.Accept.{rd32_small}
use Rattle.blorb.proofs.Checks.{and_where}
use Rattle.edits.specs.Journal.{Rec, trailer, rec_in, last_body, last_rec, fits, fits1, fits2, fits3, fits4, fits5, undo2, old_chunk, old_place}
use Rattle.edits.specs.Order.{between}
use Rattle.edits.specs.Run.{undone_file}
use Rattle.edits.proofs.JudgedLaws.{is_front_of}
use Rattle.edits.proofs.InsertJudged.{entry_tests}
use Rattle.edits.proofs.UndoJudged.{
  AcceptedFile,
  kind_1,
  kind_2,
  kind_3,
  kind_4,
  kind_5,
  fits2-facts,
  found_at,
  undo1-length,
  undo1-accepted,
  undo2-length,
  undo2-accepted,
  undo3-length,
  undo3-accepted,
  undo4-length,
  undo4-accepted,
  undo5-length,
  undo5-accepted,
}
use Rattle.edits.proofs.OrderTold.{order_inserted, order_entered}
use Rattle.edits.proofs.FitFacts.{size_is, told1, told2, told3, told4, told5, fits1-told, fits2-told, fits3-told, fits4-told, fits5-told}

-- a record read from bytes has numbers of 32 bits
body_bytes : (j : List ℕ) → All Byte j → All Byte (last_body j)
unfolding last_body
body_bytes j h = all_drop Byte (length j - (4 + trailer j)) (take (length j - 4) j) (all_take Byte (length j - 4) j h)

pub last_small : (j : List ℕ) → All Byte j → ((last_rec j).usage < W) × ((last_rec j).number < W) × ((last_rec j).type < W)
unfolding last_rec rec_in
last_small j h = (small 1, small 5, small 17)
  where
    small : (k : ℕ) → rd32 (drop k (last_body j)) < W
    small k = rd32_small (drop k (last_body j)) (all_drop Byte k (last_body j) (body_bytes j h))

-- the file after an undo of kind 2, whose entry the reader found at i: its length, and whether it is accepted
abbrev pub length2 : Rec → Model → ℕ → ℕ → ℕ
length2 r m L i = L - size_of (length (chunk_at m (ref_at m i).chunk).body) + size_of (length r.body)

abbrev pub accepted2 : (profile : ℕ) → Rec → Model → ℕ → ℕ → Bool
accepted2 profile r m L i =
    leb (length2 r m L i) 16777216
    && (not (eqb r.type RIdx) && (allows profile r.usage (old_chunk r) && not (is_front_of m.chunks r.usage r.number && eqb r.type Rect)))

-- kinds 3 and 4: the order of the chunks first, told by the starts of the entries beside the new one. Of kind 3 the one in front starts below the
-- new chunk, which pushes what is there now up; of kind 4 it may start there too.
abbrev pub entry_start : Model → ℕ → ℕ
entry_start m i = start m (ref_at m i).chunk

abbrev pub accepted3 : (profile : ℕ) → Rec → Model → ℕ → Bool
accepted3 profile r m L =
    between (entry_start m) (length m.refs) r.place (r.start - 12) (r.start - 12) && (leb (L + 12 + size_of (length r.body)) 16777216
    && (not (eqb r.type RIdx) && (leb (suc (length m.refs)) 4096 && entry_tests profile r.usage r.number (old_chunk r) m.refs)))

abbrev pub accepted4 : (profile : ℕ) → Rec → Model → ℕ → Bool
accepted4 profile r m L =
    between (entry_start m) (length m.refs) r.place (r.start - 12 + 1) (r.start - 12) && (leb (L + 12) 16777216
    && (leb (suc (length m.refs)) 4096 && entry_tests profile r.usage r.number (chunk_at m (old_place r m)) m.refs))

module _ (profile : ℕ) (f j : List ℕ) (st : AcceptedFile profile f) (bytes : All Byte j) where
  abbrev m : Model
  m = model f

  abbrev r : Rec
  r = last_rec j

  abbrev at : ℕ
  at = find (last_rec j).usage (last_rec j).number (model f).refs

  abbrev test : Bool
  test = fits (last_rec j) (model f) && accepted (verdict (rules_of profile) (undone_file f j))

  same_length : length (file (model f)) ≡ length f
  same_length = ap length st.whole

  pub test_1 : (last_rec j).kind ≡ 1 → (fits (last_rec j) (model f) && accepted (verdict (rules_of profile) (undone_file f j)))
      ≡ (told1 (last_rec j) (model f) (length f) (find (last_rec j).usage (last_rec j).number (model f).refs) && not
      (is_front_of (model f).chunks (last_rec j).usage (last_rec j).number))
  unfolding undone_file
  test_1 h =
      let k = kind_1 r m h in
      let z : Bool = not (is_front_of m.chunks r.usage r.number) in
      (λ i. k.0 i && accepted (verdict (rules_of profile) (file (k.1 i))))
      ∙ and_where (fits1 r m) _ z (λ fit. undo1-accepted profile r m st.sound st.judged st.ordered st.short fit)
      ∙ ap (λ (b : Bool). b && z) (fits1-told profile r m st.sound st.judged ∙ ap (λ (L : ℕ). told1 r m L at) same_length)

  pub test_2 : (last_rec j).kind ≡ 2 → (fits (last_rec j) (model f) && accepted (verdict (rules_of profile) (undone_file f j)))
      ≡ (told2 (last_rec j) (model f) (find (last_rec j).usage (last_rec j).number (model f).refs)
      && accepted2 profile (last_rec j) (model f) (length f) (find (last_rec j).usage (last_rec j).number (model f).refs))
  unfolding undone_file
  test_2 h =
      let k = kind_2 r m h in
      (λ i. k.0 i && accepted (verdict (rules_of profile) (file (k.1 i))))
      ∙ and_where (fits2 r m) _ (accepted2 profile r m (length f) at) part
      ∙ ap (λ (b : Bool). b && accepted2 profile r m (length f) at) (fits2-told profile r m st.sound st.judged)
    where
      part : fits2 (last_rec j) (model f) ≡ true → accepted (verdict (rules_of profile) (file (undo2 (last_rec j) (model f)))) ≡ accepted2 profile (last_rec j)
          (model f) (length f) at
      part fit =
          let p = fits2-facts r m fit in
          let i : at ≡ r.place = found_at profile r m st.judged p.inside p.usage_is p.number_is in
          undo2-accepted profile r m st.sound st.judged fit (last_small j bytes).2 st.ordered
          ∙ (λ z. leb (same_length z - size_is (chunk_at m (ref_at m r.place).chunk) z + size_is (old_chunk r) z) 16777216
          && (not (eqb r.type RIdx) && (allows profile r.usage (old_chunk r) && not (is_front_of m.chunks r.usage r.number && eqb r.type Rect))))
          ∙ ap (accepted2 profile r m (length f)) (sym i)

  pub test_3 : (last_rec j).kind ≡ 3 → (fits (last_rec j) (model f) && accepted (verdict (rules_of profile) (undone_file f j)))
      ≡ (told3 (last_rec j) (model f) (length f) && accepted3 profile (last_rec j) (model f) (length f))
  unfolding undone_file
  test_3 h =
      let k = kind_3 r m h in
      let w = last_small j bytes in
      (λ i. k.0 i && accepted (verdict (rules_of profile) (file (k.1 i))))
      ∙ and_where (fits3 r m) _ (accepted3 profile r m (length f)) (λ fit. undo3-accepted profile r m st.sound st.judged w.0 w.1 w.2
      ∙ (λ z. order_inserted r m st.sound st.ordered fit z && (leb (same_length z + 12 + size_is (old_chunk r) z) 16777216
      && (not (eqb r.type RIdx) && (leb (suc (length m.refs)) 4096 && entry_tests profile r.usage r.number (old_chunk r) m.refs)))))
      ∙ ap (λ (b : Bool). b && accepted3 profile r m (length f)) (fits3-told r m ∙ ap (told3 r m) same_length)

  pub test_4 : (last_rec j).kind ≡ 4 → (fits (last_rec j) (model f) && accepted (verdict (rules_of profile) (undone_file f j)))
      ≡ (told4 (last_rec j) (model f) && accepted4 profile (last_rec j) (model f) (length f))
  unfolding undone_file
  test_4 h =
      let k = kind_4 r m h in
      let w = last_small j bytes in
      (λ i. k.0 i && accepted (verdict (rules_of profile) (file (k.1 i))))
      ∙ and_where (fits4 r m) _ (accepted4 profile r m (length f)) (λ fit. undo4-accepted profile r m st.sound st.judged w.0 w.1 fit
      ∙ (λ z. order_entered r m st.sound st.ordered fit z && (leb (same_length z + 12) 16777216
      && (leb (suc (length m.refs)) 4096 && entry_tests profile r.usage r.number (chunk_at m (old_place r m)) m.refs))))
      ∙ ap (λ (b : Bool). b && accepted4 profile r m (length f)) (fits4-told r m)

  pub test_5 : (last_rec j).kind ≡ 5 → (fits (last_rec j) (model f) && accepted (verdict (rules_of profile) (undone_file f j)))
      ≡ (told5 (last_rec j) (model f) (find (last_rec j).usage (last_rec j).number (model f).refs) && not (is_front_of (model f).chunks (last_rec j).usage
      (last_rec j).number))
  unfolding undone_file
  test_5 h =
      let k = kind_5 r m h in
      let z : Bool = not (is_front_of m.chunks r.usage r.number) in
      (λ i. k.0 i && accepted (verdict (rules_of profile) (file (k.1 i))))
      ∙ and_where (fits5 r m) _ z (λ fit. undo5-accepted profile r m st.sound st.judged st.ordered st.short fit)
      ∙ ap (λ (b : Bool). b && z) (fits5-told profile r m st.sound st.judged)

  -- the length of the file after it, for 24
  pub after_1 : (last_rec j).kind ≡ 1 → fits1 (last_rec j) (model f) ≡ true
      → length (undone_file f j) + (12 + size_of (length (chunk_at (model f) (ref_at (model f) (last_rec j).place).chunk).body)) ≡ length f
  unfolding undone_file
  after_1 h fit =
      (λ i. length (file ((kind_1 r m h).1 i)) + (12 + sym (size_is (chunk_at m (ref_at m r.place).chunk)) i))
      ∙ undo1-length profile r m st.sound st.judged fit ∙ same_length

  pub after_2 : (last_rec j).kind ≡ 2 → fits2 (last_rec j) (model f) ≡ true → length (undone_file f j) ≡ length2 (last_rec j) (model f) (length f) (last_rec j).place
  unfolding undone_file
  after_2 h fit =
      ap (λ (z : Model). length (file z)) (kind_2 r m h).1 ∙ undo2-length profile r m st.sound st.judged fit
      ∙ (λ i. same_length i - size_is (chunk_at m (ref_at m r.place).chunk) i + size_is (old_chunk r) i)

  pub after_3 : (last_rec j).kind ≡ 3 → length (undone_file f j) ≡ length f + 12 + size_of (length (last_rec j).body)
  unfolding undone_file
  after_3 h =
      ap (λ (z : Model). length (file z)) (kind_3 r m h).1 ∙ undo3-length profile r m st.sound st.judged
      ∙ (λ i. same_length i + 12 + size_is (old_chunk r) i)

  pub after_4 : (last_rec j).kind ≡ 4 → fits4 (last_rec j) (model f) ≡ true → length (undone_file f j) ≡ length f + 12
  unfolding undone_file
  after_4 h fit =
      let w = last_small j bytes in
      ap (λ (z : Model). length (file z)) (kind_4 r m h).1 ∙ undo4-length profile r m st.sound st.judged w.0 w.1 fit ∙ ap (λ (z : ℕ). z + 12)
      same_length

  pub after_5 : (last_rec j).kind ≡ 5 → fits5 (last_rec j) (model f) ≡ true → length (undone_file f j) + 12 ≡ length f
  unfolding undone_file
  after_5 h fit = ap (λ (z : Model). length (file z) + 12) (kind_5 r m h).1 ∙ undo5-length r m fit ∙ same_length
