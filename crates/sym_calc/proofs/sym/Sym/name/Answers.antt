use Rattle.std.proofs.Common.{◌≡◌, ◌++◌, true, sym, subst, arith}
use Rattle.lin_proof.specs.Derivations.{are_declared}
use Rattle.sym_calc.specs.Calc.{tag_of}
use Rattle.sym_calc.specs.History.{is_fit, are_fit, is_accounted}
use Rattle.sym_calc.proofs.Histories.{fit_by, fit_push, accounted_made, made_push}
use Rattle.sym_calc.proofs.States.{IsNamed, named_known, named_grows, named_worlds, named_value}
use Rattle.sym_calc.proofs.sym.Sym.name.Goals as goal

pub invariant_of-self-in-Ok : goal.invariant_of-self-in-Ok
invariant_of-self-in-Ok c =
    let s = c.args.self.now in
    let named : IsNamed s.path.now.origin.form s.path.now.facts s.rows c.add_floor.new.rows s.path.now.floors s.floors c.add_floor.new.floors c.args.floor c.variables-variable.result = record {
      variable = c.variables-variable.ensures;
      rows_are = c.in-Ok.ensures.rows;
      floors_are = c.in-Ok.ensures.floors;
      known = s.known;
      declared = sym c.if-not-is_declared.ensures;
      above = c.requires.above;
      few = omega arith;
    } in
    let fit : is_fit s.path.now.origin.form (s.path.now.floors ++ s.floors) c.args.floor ≡ true = fit_by s.path.now.origin.form s.path.now.floors s.floors c.args.floor (subst (λ n. are_declared n c.args.floor.row.terms ≡ true) c.variables-variable.ensures named.declared)
    c.requires.some c.requires.number c.requires.remainders c.requires.new_on_the_path c.requires.new in
    let floors = c.in-Ok.ensures.floors in
    record {
      noted = s.noted;
      meant = λ e met. s.meant e ((named_grows s.path.now.origin s.path.now.facts s.rows c.add_floor.new.rows s.path.now.floors s.floors c.add_floor.new.floors c.args.floor c.variables-variable.result named (tag_of s) s.coeffs s.opens).closes e met);
      known = named_known s.path.now.origin s.path.now.facts s.rows c.add_floor.new.rows s.path.now.floors s.floors c.add_floor.new.floors c.args.floor c.variables-variable.result named;
      made = made_push s.path.now.origin.form s.path.now.floors s.floors c.add_floor.new.floors s.rows c.add_floor.new.rows c.args.floor c.variables-variable.result c.variables-variable.ensures floors s.made c.in-Ok.ensures.rows;
      fit = subst (λ fs. are_fit s.path.now.origin.form s.path.now.floors fs ≡ true) (sym floors) (fit_push s.path.now.origin.form s.path.now.floors s.floors c.args.floor s.fit fit);
      accounted = subst (λ fs. is_accounted s.path.now.origin.form s.path.now.facts s.path.now.floors fs s.tape.now s.taken s.trouble ≡ true) (sym floors)
          (accounted_made s.path.now.origin.form s.path.now.facts s.path.now.floors s.floors s.tape.now s.taken c.args.floor s.trouble s.accounted);
    }

pub returns-in-Ok-clause-grows : goal.returns-in-Ok-clause-grows
returns-in-Ok-clause-grows c =
    let s = c.args.self.now in
    let named : IsNamed s.path.now.origin.form s.path.now.facts s.rows c.add_floor.new.rows s.path.now.floors s.floors c.add_floor.new.floors c.args.floor c.variables-variable.result = record {
      variable = c.variables-variable.ensures;
      rows_are = c.in-Ok.ensures.rows;
      floors_are = c.in-Ok.ensures.floors;
      known = s.known;
      declared = sym c.if-not-is_declared.ensures;
      above = c.requires.above;
      few = omega arith;
    } in
    named_grows s.path.now.origin s.path.now.facts s.rows c.add_floor.new.rows s.path.now.floors s.floors c.add_floor.new.floors c.args.floor c.variables-variable.result named (tag_of s) s.coeffs s.opens

pub returns-in-Ok-clause-worlds : goal.returns-in-Ok-clause-worlds
returns-in-Ok-clause-worlds c =
    let s = c.args.self.now in
    let named : IsNamed s.path.now.origin.form s.path.now.facts s.rows c.add_floor.new.rows s.path.now.floors s.floors c.add_floor.new.floors c.args.floor c.variables-variable.result = record {
      variable = c.variables-variable.ensures;
      rows_are = c.in-Ok.ensures.rows;
      floors_are = c.in-Ok.ensures.floors;
      known = s.known;
      declared = sym c.if-not-is_declared.ensures;
      above = c.requires.above;
      few = omega arith;
    } in
    named_worlds s.path.now.origin s.path.now.facts s.rows c.add_floor.new.rows s.path.now.floors s.floors c.add_floor.new.floors c.args.floor c.variables-variable.result named (tag_of s) s.coeffs s.opens

pub returns-in-Ok-clause-value : goal.returns-in-Ok-clause-value
returns-in-Ok-clause-value c =
    let s = c.args.self.now in
    let named : IsNamed s.path.now.origin.form s.path.now.facts s.rows c.add_floor.new.rows s.path.now.floors s.floors c.add_floor.new.floors c.args.floor c.variables-variable.result = record {
      variable = c.variables-variable.ensures;
      rows_are = c.in-Ok.ensures.rows;
      floors_are = c.in-Ok.ensures.floors;
      known = s.known;
      declared = sym c.if-not-is_declared.ensures;
      above = c.requires.above;
      few = omega arith;
    } in
    named_value s.path.now.origin s.path.now.facts s.rows c.add_floor.new.rows s.path.now.floors s.floors c.add_floor.new.floors c.args.floor c.variables-variable.result named
