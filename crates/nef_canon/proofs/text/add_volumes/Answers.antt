use Rattle.nef_canon.proofs.Prelude.{◌≡◌, List, ℕ, ◌++◌, arith, ap, ◌∙◌, flat_map, volume_line, shell_line}
use Rattle.nef_complex.specs.declared.parts.Shell.{Shell}
use Rattle.nef_canon.proofs.Lines.{versioned, row-more, rows-all, first-version, second-version, volumes-all}
use Rattle.nef_canon.proofs.text.add_volumes.Goals as goal
use Rattle.nef_canon.proofs.text.add_volumes.Goals.{in-One, in-Two+in_ok-add_each-in-Two}

pub at-requires : goal.at-requires
at-requires c = record { within = let m = c.requires.as_many in let n = c.len-number-end.ensures.len in let t = c.loop-number-test.true in omega arith }

pub loop-number-preserved : goal.loop-number-preserved
loop-number-preserved c =
    let version = c.args.version in
    let x = c.at-label.result.now in
    let row : List Shell = c.at.result.now in
    let s : List ℕ = c.loop-number.text.items in
    let u : List ℕ = c.add_line.new.text.items in
    let written : u ≡ s ++ volume_line x = c.in_ok-add_line.ensures.added in
    row-more (versioned volume_line (flat_map shell_line) version) c.args.parts.now.volumes c.args.parts.now.shells c.loop-number.number x row c.at-label.ensures.element c.at.ensures.element
    (let n = c.len-number-end.ensures.len in let t = c.loop-number-test.true in omega arith) c.args.text.now.items s c.match-version.text.items c.loop-number.invariant
    (elim c.match-version.branch [
      | in-One w ↦ first-version volume_line (flat_map shell_line) version x row s c.match-version.text.items w.in-One.is (ap (λ v. v.items) w.text-is ∙ written)
      | in-Two+in_ok-add_each-in-Two w ↦ second-version volume_line (flat_map shell_line) version x row s u c.match-version.text.items w.in-Two.is written
          (ap (λ v. v.items) w.text-is ∙ w.in_ok-add_each-in-Two.ensures.added shell_line (λ before item outcome after p. p) ∙ ap (λ (r : List Shell). u ++ flat_map shell_line r) c.as_slice-own.ensures.all)
    ])

pub returns : goal.returns
returns c =
    let p = c.args.parts.now in
    let all = rows-all (versioned volume_line (flat_map shell_line) c.args.version) p.volumes p.shells c.loop-number.number (let n = c.len-number-end.ensures.len in let t = c.loop-number-test.false in omega arith) in
    record { added = c.loop-number.invariant ∙ ap (λ (r : List ℕ). c.args.text.now.items ++ r) (all ∙ volumes-all c.args.version p) }
