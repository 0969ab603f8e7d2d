-- A run that meets the hypotheses of demand 3, under ADRIFT: a blank file in a buffer of 50 bytes, a journal of 60. An add of a 'GIF ' picture
-- succeeds, a second add finds no room (24), an undo takes the first back, and another finds nothing to undo (26). All of it computes.
use mathlib.Core.Path.{◌≡◌, refl}
use Prim.Native.Nat.{ℕ, ◌<◌, ◌*◌}
use mathlib.Core.Bool.{Bool, true, ◌&&◌}
use mathlib.Core.List.{List, [], ◌∷◌, ◌++◌, map}
use native.Mathlib.Omega.{arith}
use lib.ListN.{length, replicate}
use lib.Dec.{ltb, lit<, lit≤}
use borrow.Author.Tests.{ltb-true}
use mir.Syntax.{w8}
use mir.Val.{vint}
use denote.Ref.{Bor, MutBor}
use denote.Shadow.{shadow}
use denote.Plain.{UInt}
use denote.Array.{each}
use Rattle.blorb.specs.All.{All}
use Rattle.blorb.proofs.Checks.{and_both}
use Rattle.blorb.specs.Bytes.{be32, rd32, Byte}
use Rattle.blorb.specs.Tags.{Pict, Rect, GIF}
use Rattle.blorb.specs.Format.{sized, size, chunk_bytes, chunks_bytes, total, file_bytes, chunk_in, chunks_in, chunks_of, entry_from, entries_in}
use Rattle.blorb.specs.Format.{entry_bytes, entries_bytes, index_chunk, entries_of, is_start, place_of, ref_of}
use Rattle.blorb.specs.Verdict.{◌then◌, check, head_fault, chunk_fault, walk_fault, second_index, index_fault, pair_in, last_place, ref_fault, entries_fault}
use Rattle.blorb.specs.Verdict.{rest_fault, layout_fault, verdict}
use Rattle.blorb.specs.Rules.{one_of, plain_allows_of, adrift_allows_of, allows, picture, type_in, single, chunk_rule, chunk_rules, optional, rules_of}
use Rattle.blorb.specs.Model.{base, start_of, entry_of, file, model_of_chunks, model}
use Rattle.blorb.specs.Queries.{without, find, uses, shared, start, front_place}
use Rattle.blorb.specs.Lookup.{left_out_of}
use Rattle.edits.specs.Edit.{add, with_at, lower, raise, added, held, is_whole, edited}
use Rattle.edits.specs.Blank.{blank_file}
use Rattle.edits.specs.Journal.{rec_body, rec_bytes, rec_of, trailer, rec_in, last_body, last_rec, zeros, well_formed}
use Rattle.edits.specs.Journal.{fits1, fits, undo1, undone}
use Rattle.edits.specs.Run.{State, Call, edit, undo, step, fault, whole_fault, target_fault, edited_file, edit_record, undone_file, edit_fault}
use Rattle.edits.specs.Run.{undo_fault}
use Rattle.edits.specs.Run.{written, noted, after_edit, after_undo, after}
use Rattle.edits.specs.Demand3.{Begins}
use Rattle.editor.specs.declared.Answer.{Answer}
use Rattle.std.specs.Prelude.{Ok}
use Rattle.blorb.specs.Refusals.{Refused}
use Rattle.edits.specs.Run.{state}
use Rattle.editor.specs.Called.{Called}
use Rattle.editor.specs.Runs.{AsLedger}
use Rattle.editor.proofs.Acts.{Act, by_add, by_undo, turn_of, Follows}
use Rattle.editor.proofs.DemandThree.{code_as_ledger}

-- a slice with these elements, wherever it lies
abbrev slice : List ℕ → Bor (List ℕ)
slice xs = record { ref_ptr = (0, 0); now = xs }

abbrev slice_to_write : List ℕ → MutBor (List ℕ)
slice_to_write xs = record { ref_ptr = (0, 0); ghost_name = 0; now = xs }

-- numbers and lengths below 1,000 fit every type, and four bytes are a `[u8; 4]`
room : (n : ℕ) → n < 1000 → (n < 18446744073709551616) × (n * 1 < 9223372036854775808)
room n h = (omega arith, omega arith)

elements : (xs : List ℕ) → All Byte xs → shadow (each ℕ (UInt w8).own_val xs (map (vint w8) xs))
elements [] h = tt
elements (x ∷ xs) h = ((refl, h.0), elements xs h.1)

record Small (s : State) : Type 0 where
  pub buffer : length s.buffer < 1000
  pub L : s.L < 1000
  pub journal : length s.journal < 1000
  pub U : s.U < 1000

abbrev Four : List ℕ → Type 0
Four xs = All Byte xs × (length xs ≡ 4)

-- a call c in state s with the answer r, which leaves what c does there
abbrev Gives : State → Call → Answer → Type 0
Gives s c r = Called 1 s c r (step (rules_of 1) s c).buffer (step (rules_of 1) s c).journal

module _ (s : State) (small : Small s) where
  abbrev adding : (usage : List ℕ) (n : ℕ) (kind d : List ℕ) → Four usage → n < 1000 → Four kind → length d < 1000
      → (r : Answer) → Gives s (edit (add (rd32 usage) n (rd32 kind) d)) r → Act
  adding usage n kind d u l k m r told =
      let t : State = step (rules_of 1) s (edit (add (rd32 usage) n (rd32 kind) d)) in
      by_add (record {
        lifetimes = ([], ([], ([], tt)));
        given = (slice_to_write s.buffer, (s.L, (slice_to_write s.journal, (s.U, (1, (usage, (n, (kind, (slice d, tt)))))))));
        answer = r;
        left = (slice_to_write t.buffer, (s.L, (slice_to_write t.journal, (s.U, (1, (usage, (n, (kind, (slice d, tt)))))))));
        typed = (
          room _ small.buffer,
          (
            (refl, omega (arith, small.L)),
            (
              room _ small.journal,
              (
                (refl, omega (arith, small.U)),
                (
                  (refl, lit< tt),
                  (
                    (map (vint w8) usage, ((refl, u.1), elements usage u.0)),
                    (
                      (refl, omega arith),
                      (
                        (map (vint w8) kind, ((refl, k.1), elements kind k.0)),
                        (
                          room _ m,
                          tt,
                        ),
                      ),
                    ),
                  ),
                ),
              ),
            ),
          ),
        );
        told = told;
      })

  abbrev undoing : (r : Answer) → Called 1 s undo r (step (rules_of 1) s undo).buffer s.journal → Act
  undoing r told =
      by_undo (record {
        lifetimes = ([], ([], tt));
        given = (slice_to_write s.buffer, (s.L, (slice s.journal, (s.U, (1, tt)))));
        answer = r;
        left = (slice_to_write (step (rules_of 1) s undo).buffer, (s.L, (slice s.journal, (s.U, (1, tt)))));
        typed =
            (room _ small.buffer, ((refl, omega (arith, small.L)), (room _ small.journal, ((refl, omega (arith, small.U)), ((refl, lit< tt), tt)))));
        told = told;
      })

-- what is unfolded to compute
format : ℕ
unfolding be32 rd32 sized size chunk_bytes chunks_bytes total file_bytes chunk_in chunks_in chunks_of entry_from entries_in entry_bytes entries_bytes
    index_chunk
format = 0

verdicts : ℕ
unfolding entries_of is_start place_of ref_of ◌then◌ check head_fault chunk_fault walk_fault second_index index_fault pair_in last_place ref_fault
    entries_fault rest_fault
verdicts = 0

rules : ℕ
unfolding layout_fault verdict one_of plain_allows_of adrift_allows_of allows picture type_in single chunk_rule chunk_rules optional base start_of entry_of
    file model_of_chunks model
rules = 0

edits : ℕ
unfolding without find uses shared start front_place with_at lower raise added held edited blank_file rec_body rec_bytes rec_of trailer rec_in last_body
    last_rec
edits = 0

calls : ℕ
unfolding zeros well_formed fits1 fits undo1 undone left_out_of is_whole whole_fault target_fault edited_file edit_record undone_file edit_fault undo_fault
calls = 0

states : ℕ
unfolding written noted after_edit after_undo after fault step
states = 0

-- an add of Pict 7 'GIF ' "eel", and one of a rectangle, for which there is no room
abbrev eel : List ℕ
eel = 101 ∷ (101 ∷ (108 ∷ []))

abbrev add_eel : Call
add_eel = edit (add (rd32 (be32 Pict)) 7 (rd32 (be32 GIF)) eel)

abbrev add_rect : Call
add_rect = edit (add (rd32 (be32 Pict)) 1 (rd32 (be32 Rect)) (replicate 8 0))

-- the answers
abbrev done : ℕ → ℕ → Answer
done l u = record { outcome = Ok tt; len = l; used = u }

abbrev refused : ℕ → ℕ → ℕ → Answer
refused k l u = record { outcome = Refused k 0; len = l; used = u }

-- the states
abbrev begin : State
begin = state (blank_file ++ replicate 26 9) 24 (replicate 60 7) 0

abbrev with_eel : State
with_eel = step (rules_of 1) begin add_eel

abbrev again : State
again = step (rules_of 1) with_eel undo

small : Small begin
unfolding format edits
small = record { buffer = lit< tt; L = lit< tt; journal = lit< tt; U = lit< tt }

small_eel : Small with_eel
unfolding format verdicts rules edits calls states
small_eel = record { buffer = lit< tt; L = lit< tt; journal = lit< tt; U = lit< tt }

small_again : Small again
unfolding format verdicts rules edits calls states
small_again = record { buffer = lit< tt; L = lit< tt; journal = lit< tt; U = lit< tt }

-- the four calls
added-eel : Gives begin add_eel (done 48 29)
unfolding format verdicts rules edits calls states
added-eel = record { outcome = refl; len = refl; used = refl; file = refl; journal = refl }

no_room : Gives with_eel add_rect (refused 24 48 29)
unfolding format verdicts rules edits calls states
no_room = record { outcome = refl; len = refl; used = refl; file = refl; journal = refl }

undone-eel : Called 1 with_eel undo (done 24 0) again.buffer with_eel.journal
unfolding format verdicts rules edits calls states
undone-eel = record { outcome = refl; len = refl; used = refl; file = refl; journal = refl }

nothing_left : Called 1 again undo (refused 26 24 0) (step (rules_of 1) again undo).buffer again.journal
unfolding format verdicts rules edits calls states
nothing_left = record { outcome = refl; len = refl; used = refl; file = refl; journal = refl }

four : (t : ℕ) → Four (be32 t)
unfolding be32
four t = ((omega arith, (omega arith, (omega arith, (omega arith, tt)))), refl)

abbrev acts : List Act
acts =
    adding begin small (be32 Pict) 7 (be32 GIF) eel (four Pict) (lit< tt) (four GIF) (lit< tt) (done 48 29) added-eel
    ∷ (adding with_eel small_eel (be32 Pict) 1 (be32 Rect) (replicate 8 0) (four Pict) (lit< tt) (four Rect) (lit< tt) (refused 24 48 29) no_room
    ∷ (undoing with_eel small_eel (done 24 0) undone-eel
    ∷ (undoing again small_again (refused 26 24 0) nothing_left
    ∷ [])))

-- each call begins where the last one ended
follows : Follows 1 begin acts
unfolding format verdicts rules edits calls states
follows = (refl, refl, (refl, refl, (refl, refl, (refl, refl, tt))))

below : List ℕ → Bool
below [] = true
below (x ∷ xs) = ltb x 256 && below xs

bytes : (xs : List ℕ) → below xs ≡ true → All Byte xs
unfolding below
bytes [] h = tt
bytes (x ∷ xs) h = let b = and_both (ltb x 256) (below xs) h in (ltb-true x 256 b.0, bytes xs b.1)

begins : Begins (rules_of 1) begin
unfolding format verdicts rules edits below
begins = record { known = refl; bytes = bytes begin.buffer refl; inside = lit≤ tt; fresh = refl; fine = refl }

-- demand 3 of this run
instance : AsLedger 1 begin (map turn_of acts)
instance = code_as_ledger 1 begin acts begins follows
