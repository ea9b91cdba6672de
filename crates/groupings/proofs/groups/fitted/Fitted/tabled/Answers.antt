use Rattle.std.proofs.Common.{ℕ, replicate, ap, sym, ◌∙◌, subst}
use Rattle.systems.specs.Model.{Agree}
use Rattle.groupings.specs.Members.{by_list}
use Rattle.groupings.specs.Memberships.{groups_of}
use Rattle.groupings.specs.laws.GroupLaws.{Partition, partition, partition_lawful, states_are}
use Rattle.groupings.proofs.Tabling.{written_agrees, no_fault, accepted, ok_holds}
use Rattle.groupings.proofs.groups.fitted.Fitted.tabled.Goals as goal

pub write_steps-requires : goal.write_steps-requires
write_steps-requires g c = ap (replicate 16384) c.of_none-steps.ensures

pub write_marks-requires : goal.write_marks-requires
write_marks-requires g c = ap (replicate 2048) c.of_none-marks.ensures

pub unwrap-requires : goal.unwrap-requires
unwrap-requires g c =
    let self = c.args.self.now in
    let M = g.S.System.meaning self.system.now in
    let xs = groups_of self.members in
    let law = partition_lawful M xs (g.S.System.lawful self.system.now) (subst (λ (k : ℕ). Partition k xs) (sym (states_are self.members) ∙ self.fits) (partition self.members)) in
    let same = written_agrees M xs c.groups.result c.marks.result c.write_steps.new.steps c.write_marks.new.marks c.write_starts.new.starts c.groups.ensures.is c.groups.ensures.few c.marks.ensures c.write_steps.ensures c.write_marks.ensures c.write_starts.ensures in
    accepted c.from_parts.result _ _ c.from_parts.ensures (no_fault (by_list M xs) law c.groups.result c.marks.result c.write_steps.new.steps c.write_marks.new.marks c.write_starts.new.starts same)

pub returns : goal.returns
returns g c =
    let self = c.args.self.now in
    let M = g.S.System.meaning self.system.now in
    let xs = groups_of self.members in
    subst (Agree (by_list M xs)) (sym (ok_holds c.from_parts.result c.unwrap.result _ _ c.unwrap.ensures c.from_parts.ensures).1)
    (written_agrees M xs c.groups.result c.marks.result c.write_steps.new.steps c.write_marks.new.marks c.write_starts.new.starts c.groups.ensures.is c.groups.ensures.few c.marks.ensures c.write_steps.ensures c.write_marks.ensures c.write_starts.ensures)
