-- The text is copied into the part of the buffer that has its length.
use Rattle.std.proofs.Common.{◌+◌, length, refl}
use Rattle.listing.proofs.WriteLaws.{text_in, kept}
use Rattle.listing.proofs.Page.text.Goals as goal

pub returns : goal.returns
returns c =
    let a = c.args in
    let w = text_in a.self.now.out.now a.text.now a.self.now.at (a.self.now.at + length a.text.now) _ refl c.requires c.copy_from_slice.ensures.after in
    (w, refl, kept a.self.now.out.now a.self.now.at a.text.now _ _ w)
