-- The kinds of chunks in an EA IFF 85 file, and what each may stand in (02, P9).
use Rattle.std.specs.Prelude.{ℕ, Bool, true, false, ◌||◌, eqb}
use Rattle.blorb.specs.Tags.{tag, FORM}
use Rattle.members.specs.declared.Kind.{Kind}
use Rattle.members.specs.declared.Kind.TheVariants.{Form, List as Lst, Cat, Prop, Plain}
use Rattle.members.specs.declared.Place.{Place}
use Rattle.members.specs.declared.Place.TheVariants.{Top, InForm, ListHead, InGroup, InProp}

-- 'LIST', 'CAT ' and 'PROP'; 'FORM' is blorb's
abbrev pub LIST : ℕ
LIST = tag 76 73 83 84

abbrev pub CAT : ℕ
CAT = tag 67 65 84 32

abbrev pub PROP : ℕ
PROP = tag 80 82 79 80

abbrev pub pick_kind : Bool → Kind → Kind → Kind
pick_kind true a b = a
pick_kind false a b = b

-- the kind of a chunk by its type: any other is a plain chunk
unfoldable pub kind_of : ℕ → Kind
kind_of t = pick_kind (eqb t FORM) Form (pick_kind (eqb t LIST) Lst (pick_kind (eqb t CAT) Cat (pick_kind (eqb t PROP) Prop Plain)))

-- "A FORM holds chunks, FORMs and groups; beside FORMs a group's members may be groups again, and a 'LIST' may begin with 'PROP's. The file is one
-- group or FORM ..; a PROP holds plain chunks only and stands nowhere else." ListHead: in a LIST, with nothing but PROPs before.
abbrev pub nests : Kind → Bool
nests Form = true
nests Lst = true
nests Cat = true
nests Prop = false
nests Plain = false

abbrev pub is_plain : Kind → Bool
is_plain Plain = true
is_plain Form = false
is_plain Lst = false
is_plain Cat = false
is_plain Prop = false

abbrev pub is_prop : Kind → Bool
is_prop Prop = true
is_prop Form = false
is_prop Lst = false
is_prop Cat = false
is_prop Plain = false

abbrev pub may_hold_of : Place → Kind → Bool
may_hold_of Top k = nests k
may_hold_of InForm k = nests k || is_plain k
may_hold_of ListHead k = nests k || is_prop k
may_hold_of InGroup k = nests k
may_hold_of InProp k = is_plain k

abbrev pub pick_place : Bool → Place → Place → Place
pick_place true a b = a
pick_place false a b = b

-- where the next member stands
abbrev pub behind : Place → Kind → Place
behind Top k = Top
behind InForm k = InForm
behind ListHead k = pick_place (is_prop k) ListHead InGroup
behind InGroup k = InGroup
behind InProp k = InProp

-- where the members of a chunk of this kind stand
abbrev pub within : Kind → Place
within Form = InForm
within Lst = ListHead
within Cat = InGroup
within Prop = InProp
within Plain = InProp
