use Rattle.std.proofs.Common.{◌≡◌, ◌⊎◌, inl, inr, true, List, [], ◌∷◌, ◌++◌, Err, ap, sym, ◌∙◌, subst, refl}
use Rattle.scc_bits.specs.Value.{Number}
use Rattle.scc_templates_scopes.specs.declared.join.Parts.{Parts}
use Rattle.scc_templates_scopes.specs.Joins.{StandsBy}
use Rattle.scc_templates_scopes.specs.declared.join.Parts.TheVariants as parts
use Rattle.scc_bits_kinds.specs.Bits.{is_part}
use Rattle.scc_bits_kinds.specs.Kinds.{IsValid}
use Rattle.scc_templates_scopes.proofs.Joining.{with_no_part, with_first, with_part, with_wide, with_none, with_spoilt, with_wider}
use Rattle.scc_templates_scopes.proofs.join.Joined.with.Goals as goal

pub returns-then-not-is_part : goal.returns-then-not-is_part
returns-then-not-is_part c = λ ns h. rw c.spoilt.ensures (with_no_part c.args.self.number c.args.low ns (ap is_part (sym c.kind.ensures.kind) ∙ sym c.is_part.ensures ∙ c.if-not-is_part.true))

pub returns-in-Nothing : goal.returns-in-Nothing
returns-in-Nothing c = λ ns h. rw c.of.ensures (with_first c.args.self.number c.args.low ns (subst IsValid c.kind.ensures.kind c.kind.ensures.valid)
    (ap is_part (sym c.kind.ensures.kind) ∙ sym c.is_part.ensures ∙ c.if-not-is_part.false) (subst (λ q. StandsBy q c.args.self.number ns) c.in-Nothing.is h))

pub returns-in-Ok : goal.returns-in-Ok
returns-in-Ok c = λ ns h. rw c.of-in-Ok.ensures (with_part c.args.self.number c.args.low c.in-Ok.number ns (ap is_part (sym c.kind.ensures.kind) ∙ sym c.is_part.ensures ∙ c.if-not-is_part.false)
    c.in-Ok.ensures.kind c.in-Ok.ensures.word (c.in-Ok.ensures.is.0 refl).0 (subst (λ q. StandsBy q c.args.self.number ns) c.in-Number.is h))

pub returns-in-Err-TooWide : goal.returns-in-Err-TooWide
returns-in-Err-TooWide c = λ ns h. rw c.spoilt-in-Err-TooWide.ensures (with_wide c.args.self.number c.args.low ns (ap is_part (sym c.kind.ensures.kind) ∙ sym c.is_part.ensures ∙ c.if-not-is_part.false)
    (c.in-Err-TooWide.ensures.wide.0 (ap Err c.in-Err-TooWide.field-0-is)) (subst (λ q. StandsBy q c.args.self.number ns) c.in-Number.is h))

pub returns-in-Err-NoPart : goal.returns-in-Err-NoPart
returns-in-Err-NoPart c = λ ns h. absurd (with_none c.args.self.number c.args.low ns (ap is_part (sym c.kind.ensures.kind) ∙ sym c.is_part.ensures ∙ c.if-not-is_part.false)
    (c.in-Err-NoPart.ensures.part.0 (ap Err c.in-Err-NoPart.field-0-is)).1 (subst (λ q. StandsBy q c.args.self.number ns) c.in-Number.is h))

same : (q : Parts) (m low : Number) (ns : List Number) → is_part low.kind ≡ true → (q ≡ parts.NoPart) ⊎ (q ≡ parts.TooWide) → StandsBy q m ns → StandsBy q m (ns ++ low ∷ [])
same q m low ns p (inl e) h = subst (λ r. StandsBy r m (ns ++ low ∷ [])) (sym e) (with_spoilt m low ns p (subst (λ r. StandsBy r m ns) e h))
same q m low ns p (inr e) h = subst (λ r. StandsBy r m (ns ++ low ∷ [])) (sym e) (with_wider m low ns p (subst (λ r. StandsBy r m ns) e h))

pub returns-in-NoPart : goal.returns-in-NoPart
returns-in-NoPart c = λ ns h. same c.args.self.parts c.args.self.number c.args.low ns (ap is_part (sym c.kind.ensures.kind) ∙ sym c.is_part.ensures ∙ c.if-not-is_part.false) c.in-NoPart.is h
