-- With room a cause is accepted exactly when the verdict is undecided, and its answer explains why.
use Rattle.std.proofs.Common.{◌≡◌, ℕ, List, [], ◌∷◌, length, sym, ap, ◌∙◌, subst, inl, inr}
use Rattle.systems.specs.declared.kinds.Colour.TheVariants.{Undecided}
use Rattle.systems.specs.declared.refusals.Refusal.TheVariants.{VerdictDecided}
use Rattle.systems.specs.Model.{Model}
use Rattle.rules.specs.Clauses.{whole}
use Rattle.colours.specs.declared.chains.Position.{Position}
use Rattle.colours.specs.declared.chains.Reason.{Reason}
use Rattle.colours.specs.declared.chains.Reason.TheVariants.{UnknownMark}
use Rattle.colours.specs.Colours.{HasVerdict}
use Rattle.colours.specs.Chains.{Cause}
use Rattle.colours.proofs.Verdicts.{one_verdict}
use Rattle.law.specs.Ledgers.{Ledger, model, verdict}
use Rattle.law.specs.Calls.{Call, set_rule, regroup, judge, look, cause, split, Answer, refused, done, judged, looked, caused, Reply, Roomy, Agrees, accepts, refuses}
use Rattle.law.specs.Runs.{Event, Agreed}
use Rattle.law.specs.Laws.{UndecidedVerdict, Explains, GivesCause, Causes}

pub undecided_verdict : (M : Model) (l : Ledger) → verdict M l ≡ Undecided → UndecidedVerdict M l
undecided_verdict M l e = subst (HasVerdict (model M l) (whole l.rule)) e (one_verdict (model M l) (whole l.rule)).0

verdict_undecided : (M : Model) (l : Ledger) → UndecidedVerdict M l → verdict M l ≡ Undecided
verdict_undecided M l u = sym ((one_verdict (model M l) (whole l.rule)).1 Undecided u)

abbrev slip_told : Answer → Reason
slip_told (refused e) = UnknownMark 0 0
slip_told done = UnknownMark 0 0
slip_told (judged v t f u) = UnknownMark 0 0
slip_told (looked v) = UnknownMark 0 0
slip_told (caused slip told chain) = slip

abbrev length_told : Answer → ℕ
length_told (refused e) = 0
length_told done = 0
length_told (judged v t f u) = 0
length_told (looked v) = 0
length_told (caused slip told chain) = told

abbrev chain_told : Answer → List Position
chain_told (refused e) = []
chain_told done = []
chain_told (judged v t f u) = []
chain_told (looked v) = []
chain_told (caused slip told chain) = chain

module _ (M : Model) (l : Ledger) (reply : Reply) (r : Ledger) where
  cause_accepted : (b q n k : ℕ) → Agrees M l (cause b q n k) reply r → Roomy M l (b ∷ q ∷ n ∷ k ∷ []) → UndecidedVerdict M l
      → GivesCause reply.answer
  cause_accepted b q n k (accepts h a) room u = let c = a.2 in (c.0, length (c.1 ∷ c.2), c.1 ∷ c.2, c.3)
  cause_accepted b q n k (refuses e (inl f) a) room u = absurd (f.0 room)
  cause_accepted b q n k (refuses e (inr (_, inl f)) a) room u = absurd (f.0 (verdict_undecided M l u))
  cause_accepted b q n k (refuses e (inr (_, inr f)) a) room u = absurd f.1

  cause_refused : (b q n k : ℕ) → Agrees M l (cause b q n k) reply r → Roomy M l (b ∷ q ∷ n ∷ k ∷ []) → ¬ UndecidedVerdict M l
      → reply.answer ≡ refused VerdictDecided
  cause_refused b q n k (accepts h a) room d = absurd (d (undecided_verdict M l h.1.0))
  cause_refused b q n k (refuses e (inl f) a) room d = absurd (f.0 room)
  cause_refused b q n k (refuses e (inr (_, inl f)) a) room d = a.0 ∙ ap refused f.1
  cause_refused b q n k (refuses e (inr (_, inr f)) a) room d = absurd f.1

  module _ (slip : Reason) (told : ℕ) (chain : List Position) where
    -- the answer of a cause
    pub explained : (c : Call) → Agrees M l c reply r → reply.answer ≡ caused slip told chain → UndecidedVerdict M l × Explains M l slip told chain
    explained c (refuses x f a) e = cc (sym a.0 ∙ e)
    explained (cause b q n k) (accepts h a) e =
        let c = a.2 in
        let same = sym e ∙ c.3 in (
          undecided_verdict M l h.1.0,
          (
            ap length_told same ∙ ap length (sym (ap chain_told same)),
            (c.1, c.2, ap chain_told same, subst (Cause (model M l) l.rule c.1 c.2) (sym (ap slip_told same)) c.4),
          ),
        )
    explained (set_rule x) (accepts h a) e = cc (sym (ap (λ y. y.answer) a.0) ∙ e)
    explained (regroup xs) (accepts h a) e = cc (sym (ap (λ y. y.answer) a.0) ∙ e)
    explained (judge m q) (accepts h a) e = cc (sym a.2 ∙ e)
    explained (look m q s c) (accepts h a) e = cc (sym a.2 ∙ e)
    explained (split x) (accepts h a) e = cc (sym (ap (λ y. y.answer) a.0) ∙ e)

pub causes : (M : Model) (e : Event) → Agreed M e → Causes M e
causes M e g = record {
  accepted = λ c u. cause_accepted M e.before e.reply e.after c.0 c.1 c.2 c.3 (with_call c.4) c.5 u;
  otherwise = λ c d. cause_refused M e.before e.reply e.after c.0 c.1 c.2 c.3 (with_call c.4) c.5 d;
  explained = λ slip told chain same. explained M e.before e.reply e.after slip told chain e.call g same;
}
  where
    with_call : {c : Call} → e.call ≡ c → Agrees M e.before c e.reply e.after
    with_call same = subst (λ c. Agrees M e.before c e.reply e.after) same g
