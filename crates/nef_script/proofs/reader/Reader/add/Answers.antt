-- What a line says is added.
use Rattle.nef_script.proofs.Prelude.{◌≡◌, ℕ, Result, Ok, Err, IfOk, List, [], ◌∷◌, ◌++◌, length, refl, sym, subst, arith, TurnOf, IsCopyOf, IsQuestion, IsStatement, state, AddsWords, Verb}
use Rattle.std.specs.Prelude.{OnOk}
use Rattle.nef_expr.proofs.Operands.{names-from}
use Rattle.nef_script.specs.declared.arguments.Verb.TheVariants as verb
use Rattle.nef_script.specs.declared.script.Command.TheVariants as command
use Rattle.nef_script.proofs.Adding.{AddsWords-node, AddsWords-turn, AddsWords-ask}
use Rattle.nef_script.proofs.Looking.{node-operands}
use Rattle.nef_script.proofs.reader.Reader.add.Goals as goal

if_added : {X E A P : Type 0} (r : Result X E) → OnOk r A → (A → P) → IfOk r (λ _. P)
if_added (Ok x) a f = f a
if_added (Err e) a f = tt

if_bound : {X E A B C P : Type 0} (r : Result X E) → OnOk r A → OnOk r B → OnOk r C → (A → B → C → P) → IfOk r (λ _. P)
if_bound (Ok x) a b c f = f a b c
if_bound (Err e) a b c f = tt

pub push-requires-clause-operands : goal.push-requires-clause-operands
push-requires-clause-operands c =
    let s = c.args.self.now in
    let v = c.requires.says.0 in let args = c.requires.says.1 in
    let is = subst (IsStatement s.names s.bound.items c.args.line v args) c.in-Bind.is c.requires.says.2 in
    names-from (length s.sets.nodes) c.in-Bind.node (λ k operand. (
    let found = node-operands s.names s.bound.items v args c.in-Bind.node is.2 k operand in
    c.requires.sound.within found.0 k found.1))

pub push-requires-clause-room : goal.push-requires-clause-room
push-requires-clause-room c =
    let s = c.args.self.now in
    let is = subst (IsStatement s.names s.bound.items c.args.line c.requires.says.0 c.requires.says.1) c.in-Bind.is c.requires.says.2 in
    let room = is.1.room in let few = c.requires.sound.few in
    omega (arith, room, few)

pub returns-in_ok-node-in-Bind : goal.returns-in_ok-node-in-Bind
returns-in_ok-node-in-Bind c =
    let s = c.args.self.now in
    let made = c.in_ok-node-in-Bind.ensures in
    let new = c.bind.new.self in
    let did = c.bind.ensures in
    record {
      adds = if_bound c.bind.result did.names did.bound did.commands (λ names bound commands v args says. (
          let is = subst (IsStatement s.names s.bound.items c.args.line v args) c.in-Bind.is says in
          subst (λ z. AddsWords c.args.line v args (state s.names s.bound.items s.sets s.commands) (state new.names new.bound.items z new.commands)) (sym did.sets)
          (AddsWords-node c.args.line v args (state s.names s.bound.items s.sets s.commands) (state new.names new.bound.items c.push.new.self new.commands) c.requires.sound is.1.some
          (subst (λ w. new.names ≡ s.names ++ w ∷ []) is.1.first names)
          c.in-Bind.node c.in_ok-node-in-Bind.node is.0 made.number is.2 bound made.added made.with_origin made.own made.bases commands)));
    }

pub returns-in_ok-node-in-Turn : goal.returns-in_ok-node-in-Turn
returns-in_ok-node-in-Turn c =
    let s = c.args.self.now in
    let from = c.in-Turn.from in
    let t = c.in-Turn.turn in
    let k = c.in_ok-node-in-Turn.node in
    let made = c.in_ok-node-in-Turn.ensures in
    let new = c.bind-in-Turn.new.self in
    let did = c.bind-in-Turn.ensures in
    record {
      adds = if_bound c.bind-in-Turn.result did.names did.bound did.commands (λ names bound commands v args says. (
          let is = subst (IsStatement s.names s.bound.items c.args.line v args) c.in-Turn.is says in
          subst (λ (u : Verb). AddsWords c.args.line u args (state s.names s.bound.items s.sets s.commands) (state new.names new.bound.items new.sets new.commands)) (sym is.0)
          (subst (λ z. AddsWords c.args.line verb.Turn args (state s.names s.bound.items s.sets s.commands) (state new.names new.bound.items z new.commands)) (sym did.sets)
          (AddsWords-turn c.args.line args (state s.names s.bound.items s.sets s.commands) (state new.names new.bound.items c.turn.new.self new.commands) from t k c.requires.sound
          is.2.count is.2.named is.2.number is.2.below
          (subst (λ (x : ℕ). TurnOf c.turn.new.self.nodes x from k) c.from.ensures made.turned)
          (subst (λ (x : ℕ). IsCopyOf c.turn.new.self.origins x from k) c.from.ensures made.copy)
          made.stay
          (subst (λ w. new.names ≡ s.names ++ w ∷ []) is.1.first names)
          bound commands))));
    }

pub returns-in-Ask : goal.returns-in-Ask
returns-in-Ask c =
    let s = c.args.self.now in
    record {
      adds = if_added c.push-in-Ask.result c.push-in-Ask.ensures.ok (λ added v args says. (
          let is = subst (IsStatement s.names s.bound.items c.args.line v args) c.in-Ask.is says in
          AddsWords-ask c.args.line v args (state s.names s.bound.items s.sets s.commands) (state s.names s.bound.items s.sets c.push-in-Ask.new.self) c.in-Ask.question
          c.requires.sound is.0 is.1 is.2 refl refl refl added));
    }

pub returns-in_ok-name-in-Print : goal.returns-in_ok-name-in-Print
returns-in_ok-name-in-Print c =
    let s = c.args.self.now in
    record {
      adds = if_added c.push-in-Print.result c.push-in-Print.ensures.ok (λ added v args says. (
          let is = subst (IsStatement s.names s.bound.items c.args.line v args) c.in-Print.is says in
          let question = subst (λ (w : List ℕ). IsQuestion s.names s.bound.items c.args.line v args (command.Print c.args.line c.in-Print.node w)) (sym c.in_ok-name-in-Print.ensures.name) is.1 in
          AddsWords-ask c.args.line v args (state s.names s.bound.items s.sets s.commands) (state s.names s.bound.items s.sets c.push-in-Print.new.self) (command.Print c.args.line c.in-Print.node c.in_ok-name-in-Print.name)
          c.requires.sound is.0 question tt refl refl refl added));
    }
