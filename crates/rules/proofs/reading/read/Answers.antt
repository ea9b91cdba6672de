use Rattle.std.proofs.Common.{inl, inr, sym, ◌∙◌, arith, rules}
use Rattle.std.proofs.lemmas.Bool.{eqb-true}
use Rattle.std.proofs.lemmas.Result.{MatchResult-weaker, err_from_is_err_and}
use Rattle.rules.specs.Reading.{Sized, Answers, bad_length, too_deep, too_many}
use Rattle.rules.proofs.Whole.{spells_text, spelled_marks, counted_whole, some_whole, founded_whole, marks_whole, taken_whole, whole_ok, whole_err, not_empty, refused_place}
use Rattle.rules.proofs.reading.read.Goals as goal

pub returns-then-is_empty : goal.returns-then-is_empty
unfolding Answers
returns-then-is_empty c = bad_length (λ z. elim c.then-is_empty.either [ inl l ↦ omega (arith, z.0, eqb-true _ 0 (sym c.is_empty.ensures ∙ l)) | inr g ↦ omega (arith, z.1, g.1) ]) c.into.ensures

pub returns-in_err-nesting : goal.returns-in_err-nesting
unfolding Answers
returns-in_err-nesting c =
    let p = err_from_is_err_and c.from_residual.result c.from_residual.ensures.1 in
    let told = MatchResult-weaker c.whole.result c.map_err.ensures.cases (λ x e. e) (λ d e. let f = err_from_is_err_and _ e in (f.0, f.1, search rules)) in
    let sized : Sized c.args.text.now = (not_empty _ c.if-is_empty.ensures, omega arith) in
    rw p.1 (refused_place c.args.text.now c.in_err-nesting.field-0.0 p.0 sized p.2 (whole_err c.args.text.now c.new-reader.result c.whole.new.self c.whole.result c.map_err.result told c.in_err-nesting.field-0.0 c.in_err-nesting.was c.new-reader.ensures.rest c.whole.ensures))

pub returns-then-nesting-gt-MAX_NESTING : goal.returns-then-nesting-gt-MAX_NESTING
unfolding Answers
returns-then-nesting-gt-MAX_NESTING c =
    let w = whole_ok c.new-reader.result c.whole.new.self c.whole.result c.map_err.result _ c.map_err.ensures.cases c.map_err.ensures.variant c.in_ok-nesting.nesting c.in_ok-nesting.was c.whole.ensures in
    too_deep w.0 ((not_empty _ c.if-is_empty.ensures, omega arith), spells_text _ _ w.0 c.new-reader.ensures.rest w.1) (omega (arith, w.2)) c.into-then-nesting-gt-MAX_NESTING.ensures

pub returns-then-reader-gt-MAX_CLAUSES : goal.returns-then-reader-gt-MAX_CLAUSES
unfolding Answers
returns-then-reader-gt-MAX_CLAUSES c =
    let w = whole_ok c.new-reader.result c.whole.new.self c.whole.result c.map_err.result _ c.map_err.ensures.cases c.map_err.ensures.variant c.in_ok-nesting.nesting c.in_ok-nesting.was c.whole.ensures in
    let n = counted_whole c.new-reader.result.list c.whole.new.self.list w.0 c.new-reader.ensures.count c.new-reader.ensures.kept w.3 in
    too_many w.0 ((not_empty _ c.if-is_empty.ensures, omega arith), spells_text _ _ w.0 c.new-reader.ensures.rest w.1) (omega (arith, w.2)) (omega (arith, n)) c.into-then-reader-gt-MAX_CLAUSES.ensures

pub invariant_of-result : goal.invariant_of-result
invariant_of-result c =
    let w = whole_ok c.new-reader.result c.whole.new.self c.whole.result c.map_err.result _ c.map_err.ensures.cases c.map_err.ensures.variant c.in_ok-nesting.nesting c.in_ok-nesting.was c.whole.ensures in
    let t = c.new-reader.result.list in
    let u = c.whole.new.self.list in
    let low = c.if-reader-gt-MAX_CLAUSES.false in
    record {
      long = u.whole;
      some = some_whole t u w.0 c.new-reader.ensures.count c.new-reader.ensures.kept w.3;
      few = low;
      founded = founded_whole t u w.0 c.new-reader.ensures.count c.new-reader.ensures.kept w.3 low;
      marks = marks_whole t u w.0 c.new-reader.ensures.count c.new-reader.ensures.kept w.3 low (spelled_marks (spells_text _ _ w.0 c.new-reader.ensures.rest w.1));
    }

pub returns : goal.returns
unfolding Answers
returns c =
    let w = whole_ok c.new-reader.result c.whole.new.self c.whole.result c.map_err.result _ c.map_err.ensures.cases c.map_err.ensures.variant c.in_ok-nesting.nesting c.in_ok-nesting.was c.whole.ensures in
    let n = counted_whole c.new-reader.result.list c.whole.new.self.list w.0 c.new-reader.ensures.count c.new-reader.ensures.kept w.3 in
    record {
      spelled = w.0;
      is_rule = ((not_empty _ c.if-is_empty.ensures, omega arith), spells_text _ _ w.0 c.new-reader.ensures.rest w.1);
      shallow = omega (arith, w.2);
      few = omega (arith, n, c.if-reader-gt-MAX_CLAUSES.false);
      holds = taken_whole c.new-reader.result.list c.whole.new.self.list w.0 c.new-reader.ensures.count c.new-reader.ensures.kept w.3 c.if-reader-gt-MAX_CLAUSES.false;
      depth = w.2;
    }
