-- How an edit moves the starts of a file's entries (01, The edits). That the edited file has these starts is proved in proofs/Starts.antt.
use Rattle.std.specs.Prelude.{ℕ, ◌+◌, ◌-◌, cond, ltb}
use Rattle.blorb.specs.Format.{Entry}

-- an entry's start becomes f of it
abbrev pub moved : (ℕ → ℕ) → Entry → Entry
moved f e = record { usage = e.usage; number = e.number; start = f e.start }

-- replace: "Only starts behind it move, by the change in size": from a to b, the chunk being at s
abbrev pub behind : ℕ → ℕ → ℕ → ℕ → ℕ
behind s a b t = cond (ltb s t) (t + b - a) t

-- remove: "Starts behind it fall by 12 and the chunk's size, the others by 12": a chunk of a bytes at s
abbrev pub fallen : ℕ → ℕ → ℕ → ℕ
fallen s a t = cond (ltb s t) (t - (12 + a)) (t - 12)
