use Rattle.nef_plan.proofs.Prelude.{◌≡◌, ◌∙◌, ℕ, ap, refl, sym, subst, arith, append-nil, length-append, List, [], ◌∷◌, ◌++◌, length, inl, inr, Node, node_set, sets_after, new-set, Drafts, Make, HasGrown, HasMore, IsMade, IsMadeAs, asked}
use Rattle.nef_plan.proofs.Growth.{more-push, steps-more, made-new, made-within, grown-trans}
use Rattle.nef_plan.proofs.Added.{added-one}
use Rattle.nef_plan.proofs.planner.joined_part.Goals as goal

pub add_step-requires-clause-steps : goal.add_step-requires-clause-steps
add_step-requires-clause-steps c =
    let old = c.args.plan.now.nodes in
    let added : c.push.new.self ≡ old ++ c.join-made.result ∷ [] = c.in_ok-node.ensures.added in
    steps-more old c.push.new.self c.args.plan.now.steps.items (subst (HasMore old) (sym added) (more-push old c.join-made.result)) c.requires.steps

pub add_step-requires-clause-right : goal.add_step-requires-clause-right
add_step-requires-clause-right c =
    let old = c.args.plan.now.nodes in
    let made = c.join-made.result in
    let added : c.push.new.self ≡ old ++ made ∷ [] = c.in_ok-node.ensures.added in
    let number : c.in_ok-node.node ≡ length old = c.in_ok-node.ensures.number in
    let is = made-new old made (c.join-made.ensures.within (length old) c.requires.first.within c.requires.second.within) in
    subst (λ (z : List Node). IsMadeAs z c.in_ok-node.node made) (sym added) (subst (λ (n : ℕ). IsMadeAs (old ++ made ∷ []) n made) (sym number) is)

pub add_step-requires-clause-follows : goal.add_step-requires-clause-follows
add_step-requires-clause-follows c =
    let steps = c.args.plan.now.steps.items in
    let number : c.in_ok-node.node ≡ length c.args.plan.now.nodes = c.in_ok-node.ensures.number in
    record {
      looks = λ k is. elim (c.join-made.ensures.operands k is) [
        | inl e ↦ subst (IsMade steps) (sym e) c.requires.first.made
        | inr e ↦ subst (IsMade steps) (sym e) c.requires.second.made
      ];
      new = λ k is made. (let e : k ≡ c.in_ok-node.node = is in let within = made-within c.args.plan.now.nodes steps k c.requires.steps made in omega (arith, e, number, within));
    }

pub returns-clause-grown : goal.returns-clause-grown
returns-clause-grown c =
    let old = c.args.plan.now in
    let middle : Drafts = record old { nodes = c.push.new.self } in
    let added : c.push.new.self ≡ old.nodes ++ c.join-made.result ∷ [] = c.in_ok-node.ensures.added in
    let more : HasMore old.nodes middle.nodes = subst (HasMore old.nodes) (sym added) (more-push old.nodes c.join-made.result) in
    let first : HasGrown old middle [] = record { nodes = more; steps = steps-more old.nodes middle.nodes old.steps.items more c.requires.steps; made = λ k is. is; asked = sym (append-nil (asked old.steps.items)) } in
    grown-trans old middle c.add_step.new.plan [] [] first c.in_ok-add_step.ensures.grown

pub returns-clause-added : goal.returns-clause-added
returns-clause-added c =
    let old = c.args.plan.now in
    let number : c.in_ok-node.node ≡ length old.nodes = c.in_ok-node.ensures.number in
    added-one old c.add_step.new.plan (λ k. ⊥) (Make c.in_ok-node.node c.join-made.result) c.in_ok-add_step.ensures.steps
    (λ k is. let e : k ≡ c.in_ok-node.node = is in inr (omega (arith, e, number), (c.args.first, c.join-made.ensures.first)))

pub returns-clause-set : goal.returns-clause-set
returns-clause-set c =
    let old = c.args.plan.now.nodes in
    let made = c.join-made.result in
    let added : c.push.new.self ≡ old ++ made ∷ [] = c.in_ok-node.ensures.added in
    let number : c.in_ok-node.node ≡ length old = c.in_ok-node.ensures.number in
    ap (λ (z : List Node). node_set z c.in_ok-node.node) (c.in_ok-add_step.ensures.nodes ∙ added)
    ∙ ap (node_set (old ++ made ∷ [])) number
    ∙ new-set old made
    ∙ c.join-made.ensures.set (sets_after [] old)

pub returns-clause-ready : goal.returns-clause-ready
returns-clause-ready c =
    let old = c.args.plan.now.nodes in
    let number = c.in_ok-node.ensures.number in
    let longer = ap length (c.in_ok-add_step.ensures.nodes ∙ c.in_ok-node.ensures.added) ∙ length-append old (c.join-made.result ∷ []) in
    record { within = omega (arith, number, longer); made = c.in_ok-add_step.ensures.made c.in_ok-node.node refl }

pub returns-clause-one : goal.returns-clause-one
returns-clause-one c = ap length (c.in_ok-add_step.ensures.nodes ∙ c.in_ok-node.ensures.added) ∙ length-append c.args.plan.now.nodes (c.join-made.result ∷ [])
