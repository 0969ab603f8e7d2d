-- The faults by their numbers: a refusal is seen as its number and place.
use Rattle.std.specs.Prelude.{ℕ, ◌≡◌, ◌==◌, refl, if◌then◌else◌}
use Rattle.std.proofs.Common.{ap}
use Rattle.blorb.specs.declared.refusal.Fault.{Fault}
use Rattle.blorb.specs.declared.refusal.Fault.TheVariants as fault
use Rattle.blorb.specs.declared.refusal.Refusal.TheInside.{Inside}

abbrev pub number_of : Fault → ℕ
number_of fault.TooLong = 1
number_of fault.TooShort = 2
number_of fault.NoForm = 3
number_of fault.NoIfrs = 4
number_of fault.FormLength = 5
number_of fault.ChunkCut = 6
number_of fault.Padding = 7
number_of fault.NoIndex = 8
number_of fault.SecondIndex = 9
number_of fault.IndexLength = 10
number_of fault.TooMany = 11
number_of fault.UnknownUsage = 12
number_of fault.Start = 13
number_of fault.Type = 14
number_of fault.ExecNumber = 15
number_of fault.Repeated = 16
number_of fault.SecondOptional = 17
number_of fault.OptionalLength = 18
number_of fault.Frontispiece = 19
number_of fault.Lengths = 20
number_of fault.Record = 21
number_of fault.NotThere = 22
number_of fault.Shared = 23
number_of fault.FileRoom = 24
number_of fault.JournalRoom = 25
number_of fault.NothingToUndo = 26
number_of fault.Order = 27
number_of fault.ChunkLength = 28
number_of fault.NoPadding = 29
number_of fault.WholeForm = 30
number_of fault.SecondReso = 31
number_of fault.ResoLength = 32
number_of fault.ResoNumber = 33
number_of fault.TableRoom = 34
number_of fault.TableStale = 35
number_of fault.SecondRdes = 36
number_of fault.RdesLength = 37
number_of fault.RdesRepeated = 38
number_of fault.RdesText = 39
number_of fault.RdesRoom = 40
number_of fault.GroupSize = 41
number_of fault.GroupDepth = 42
number_of fault.GroupMember = 43
number_of fault.GroupPadding = 44
number_of fault.FormsRoom = 45
number_of fault.NotAiff = 49
number_of fault.Common = 50
number_of fault.Rate = 51
number_of fault.Profile = 52
number_of fault.ResultTooLong = 101
number_of fault.ResultSecondIndex = 109
number_of fault.ResultTooMany = 111
number_of fault.ResultUsage = 112
number_of fault.ResultType = 114
number_of fault.ResultExecNumber = 115
number_of fault.ResultRepeated = 116
number_of fault.ResultFrontispiece = 119

-- the fault with this number; of a number that none has, the last
abbrev pub fault_numbered : ℕ → Fault
fault_numbered n =
    if n == 1 then fault.TooLong else
    if n == 2 then fault.TooShort else
    if n == 3 then fault.NoForm else
    if n == 4 then fault.NoIfrs else
    if n == 5 then fault.FormLength else
    if n == 6 then fault.ChunkCut else
    if n == 7 then fault.Padding else
    if n == 8 then fault.NoIndex else
    if n == 9 then fault.SecondIndex else
    if n == 10 then fault.IndexLength else
    if n == 11 then fault.TooMany else
    if n == 12 then fault.UnknownUsage else
    if n == 13 then fault.Start else
    if n == 14 then fault.Type else
    if n == 15 then fault.ExecNumber else
    if n == 16 then fault.Repeated else
    if n == 17 then fault.SecondOptional else
    if n == 18 then fault.OptionalLength else
    if n == 19 then fault.Frontispiece else
    if n == 20 then fault.Lengths else
    if n == 21 then fault.Record else
    if n == 22 then fault.NotThere else
    if n == 23 then fault.Shared else
    if n == 24 then fault.FileRoom else
    if n == 25 then fault.JournalRoom else
    if n == 26 then fault.NothingToUndo else
    if n == 27 then fault.Order else
    if n == 28 then fault.ChunkLength else
    if n == 29 then fault.NoPadding else
    if n == 30 then fault.WholeForm else
    if n == 31 then fault.SecondReso else
    if n == 32 then fault.ResoLength else
    if n == 33 then fault.ResoNumber else
    if n == 34 then fault.TableRoom else
    if n == 35 then fault.TableStale else
    if n == 36 then fault.SecondRdes else
    if n == 37 then fault.RdesLength else
    if n == 38 then fault.RdesRepeated else
    if n == 39 then fault.RdesText else
    if n == 40 then fault.RdesRoom else
    if n == 41 then fault.GroupSize else
    if n == 42 then fault.GroupDepth else
    if n == 43 then fault.GroupMember else
    if n == 44 then fault.GroupPadding else
    if n == 45 then fault.FormsRoom else
    if n == 49 then fault.NotAiff else
    if n == 50 then fault.Common else
    if n == 51 then fault.Rate else
    if n == 52 then fault.Profile else
    if n == 101 then fault.ResultTooLong else
    if n == 109 then fault.ResultSecondIndex else
    if n == 111 then fault.ResultTooMany else
    if n == 112 then fault.ResultUsage else
    if n == 114 then fault.ResultType else
    if n == 115 then fault.ResultExecNumber else
    if n == 116 then fault.ResultRepeated else
    fault.ResultFrontispiece

abbrev pub view_of : Inside → ℕ × ℕ
view_of r = (number_of r.fault, r.place)

abbrev pub inside_of : ℕ × ℕ → Inside
inside_of d = record { fault = fault_numbered d.0; place = d.1 }

pub fault_numbered_back : (f : Fault) → fault_numbered (number_of f) ≡ f
fault_numbered_back fault.TooLong = refl
fault_numbered_back fault.TooShort = refl
fault_numbered_back fault.NoForm = refl
fault_numbered_back fault.NoIfrs = refl
fault_numbered_back fault.FormLength = refl
fault_numbered_back fault.ChunkCut = refl
fault_numbered_back fault.Padding = refl
fault_numbered_back fault.NoIndex = refl
fault_numbered_back fault.SecondIndex = refl
fault_numbered_back fault.IndexLength = refl
fault_numbered_back fault.TooMany = refl
fault_numbered_back fault.UnknownUsage = refl
fault_numbered_back fault.Start = refl
fault_numbered_back fault.Type = refl
fault_numbered_back fault.ExecNumber = refl
fault_numbered_back fault.Repeated = refl
fault_numbered_back fault.SecondOptional = refl
fault_numbered_back fault.OptionalLength = refl
fault_numbered_back fault.Frontispiece = refl
fault_numbered_back fault.Lengths = refl
fault_numbered_back fault.Record = refl
fault_numbered_back fault.NotThere = refl
fault_numbered_back fault.Shared = refl
fault_numbered_back fault.FileRoom = refl
fault_numbered_back fault.JournalRoom = refl
fault_numbered_back fault.NothingToUndo = refl
fault_numbered_back fault.Order = refl
fault_numbered_back fault.ChunkLength = refl
fault_numbered_back fault.NoPadding = refl
fault_numbered_back fault.WholeForm = refl
fault_numbered_back fault.SecondReso = refl
fault_numbered_back fault.ResoLength = refl
fault_numbered_back fault.ResoNumber = refl
fault_numbered_back fault.TableRoom = refl
fault_numbered_back fault.TableStale = refl
fault_numbered_back fault.SecondRdes = refl
fault_numbered_back fault.RdesLength = refl
fault_numbered_back fault.RdesRepeated = refl
fault_numbered_back fault.RdesText = refl
fault_numbered_back fault.RdesRoom = refl
fault_numbered_back fault.GroupSize = refl
fault_numbered_back fault.GroupDepth = refl
fault_numbered_back fault.GroupMember = refl
fault_numbered_back fault.GroupPadding = refl
fault_numbered_back fault.FormsRoom = refl
fault_numbered_back fault.NotAiff = refl
fault_numbered_back fault.Common = refl
fault_numbered_back fault.Rate = refl
fault_numbered_back fault.Profile = refl
fault_numbered_back fault.ResultTooLong = refl
fault_numbered_back fault.ResultSecondIndex = refl
fault_numbered_back fault.ResultTooMany = refl
fault_numbered_back fault.ResultUsage = refl
fault_numbered_back fault.ResultType = refl
fault_numbered_back fault.ResultExecNumber = refl
fault_numbered_back fault.ResultRepeated = refl
fault_numbered_back fault.ResultFrontispiece = refl

pub inside_of_view : (r : Inside) → inside_of (view_of r) ≡ r
inside_of_view r = ap (λ (f : Fault). record { fault = f; place = r.place }) (fault_numbered_back r.fault)
