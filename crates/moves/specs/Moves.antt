-- What the byte-moving leaves do.
use Rattle.std.specs.Prelude.{ℕ, zero, suc, ◌+◌, ◌-◌, List, cond, drop, ltb}
use Rattle.blorb.specs.Bytes.{be32, rd32}
use Rattle.edits.specs.Run.{noted}
use Rattle.moves.specs.declared.Move.{Move}
use Rattle.moves.specs.declared.Entry.{Entry}
use Rattle.edits.specs.Journal.{Rec}

-- a start behind the limit moves by one step, any other by the other
unfoldable pub relocated : Move → ℕ → ℕ
relocated m t = cond (ltb m.limit t) (t + m.behind.up - m.behind.down) (t + m.others.up - m.others.down)

-- n entries from offset at on: each start becomes f of it
unfoldable pub starts_moved : (ℕ → ℕ) → ℕ → ℕ → List ℕ → List ℕ
starts_moved f zero at b = b
starts_moved f (suc n) at b = starts_moved f n (at + 12) (noted b (at + 8) (be32 (f (rd32 (drop (at + 8) b)))))

-- the record with these fields
unfoldable pub record_of : ℕ → Entry → ℕ → ℕ → List ℕ → Rec
record_of kind e place t d = record { kind = kind; usage = e.pair.usage; number = e.pair.number; place = place; start = e.start; type = t; body = d }
