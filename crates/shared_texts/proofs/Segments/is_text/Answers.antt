-- A walk from where the remembered segments end tells whether the rest of the text is good, and so the whole.
use Rattle.std.proofs.Common.{◌≡◌, ◌∙◌, ap}
use borrow.Author.Tests.{lt-leb}
use Rattle.shared_texts.specs.Segments.{Lent}
use Rattle.shared_texts.proofs.SegmentLaws.{text_from, text_short}
use Rattle.shared_texts.proofs.Segments.is_text.Goals as goal
use Rattle.shared_texts.proofs.Segments.is_text.Goals.{then-at-q, else-at-q}

pub returns : goal.returns
returns c =
    let a = c.args in
    let told = c.passed-at.ensures in
    let view : c.self.inside.texts.now ≡ a.self.now.texts = ap (λ (v : Lent). v.texts) (c.self.view_is ∙ told.1) in (
      elim c.if-at-q.branch [
        | then-at-q w ↦ w.result-is ∙ text_from a.self.now.texts a.p a.q c.requires.0 c.requires.1 _ told.0 _ (rw (← view) w.good_until.ensures)
        | else-at-q w ↦
            w.result-is ∙ lt-leb _ _ w.if-at-q.false ∙ text_short a.self.now.texts a.p a.q c.requires.0 c.requires.1 _ told.0 w.if-at-q.false
      ],
      told.1,
    )
