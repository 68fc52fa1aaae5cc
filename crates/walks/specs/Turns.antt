-- Loops in a walk. A loop's state is any type with a measure that falls from turn to turn, so that
-- the loop ends; what holds at each turn is the whole context, as a function of the state. The
-- loops here stand in a block of their own, as a `while` or a `loop` does, and after them the rest
-- of the function runs.
use Rattle.std.proofs.Math.Path.{refl}
use Rattle.std.specs.Prelude.{Bool, not, List, ℕ, zero, ◌<◌, T}
use mathlib.Core.WellFounded.InvImage
use mathlib.Core.WellFounded.{WellFounded}
use seplogic.Ra.Ura.{Ura}
use lib.WfN.{lt-wf_rel}
use mir.Syntax.{Opd as Operand, Body, skip, seq, block, loop, cond, exit, return}
use mir.Val.{Val, vbool}
use base.Logic.{SProp}
use prog.Wp.{Heap, Env, Out, next, Calls, Loops, Tables, Wp, at_return, after_seq, after_block, after_turn, spot_of}
use types.Logic.{Logic}
use types.Kit.{Item, Goal, Post, any_q, at_ret, post, prop, runs, frees, Seq, Step, ◌$◌}
use types.Run.{Reads, Opd, Below, first, skips, jumps, blocks, branches, returns_within, again, loops}

-- The measure falls.
abbrev pub Falls : {X : Type 0} → (X → ℕ) → X → X → Type 0
Falls μ u t = μ u < μ t

falls_ends : {X : Type 0} (μ : X → ℕ) → WellFounded (Falls μ)
falls_ends μ = InvImage.wf μ lt-wf_rel.wf

-- A loop that is walked: the tables of calls and loops, the locals, what the function is to come
-- to, the rest that runs once the loop is left, the loop's states with their measure, and what
-- holds at each.
pub record Round {M : Type 1} (𝓤 : Ura M) (H : Heap 𝓤) : Type 2 where
  pub tables : Tables 𝓤 H
  pub env : Env 𝓤 H
  pub aim : Val → SProp 𝓤
  pub rest : Body
  pub State : Type 0
  pub measure : State → ℕ
  pub holds : State → List (Item 𝓤)

module _ {M : Type 1} {𝓤 : Ura M} {H : Heap 𝓤} where
  abbrev runs_in : Round 𝓤 H → Body → Post 𝓤 H → Goal 𝓤 H
  runs_in ρ b q = runs ρ.tables.C ρ.tables.Λ ρ.env b q

  -- The rest of the function.
  abbrev pub Rest : Round 𝓤 H → Goal 𝓤 H
  Rest ρ = runs_in ρ ρ.rest (at_ret ρ.env ρ.aim)

module _ {M : Type 1} {𝓤 : Ura M} (𝓛 : Logic 𝓤) where
  open 𝓛 use {H}

  -- What a turn from the state x is to come to: the next turn, at a smaller state; or the loop is
  -- left, and the rest runs; or the function returns.
  abbrev Turned : (ρ : Round 𝓤 H) → ρ.State → Out → SProp 𝓤
  Turned ρ x =
      after_turn 𝓤 H (Below 𝓛 (Falls ρ.measure) ρ.holds x)
      (after_block 𝓤 H (after_seq 𝓤 H (Wp 𝓤 H ρ.tables.C ρ.tables.Λ ρ.env ρ.rest (at_return 𝓤 H ρ.env ρ.aim)) (at_return 𝓤 H ρ.env ρ.aim)))

  -- A part b of such a turn.
  abbrev pub Turn : (ρ : Round 𝓤 H) → ρ.State → Body → Goal 𝓤 H
  Turn ρ x b = runs_in ρ b (any_q (Turned ρ x))

-- `if c { a }`, and then b.
pub unless : {M : Type 1} {𝓤 : Ura M} {𝓛 : Logic 𝓤} {K : Type 0} {Γ : List (Item 𝓤)} {E : Env 𝓤 𝓛.H} {C : Calls 𝓤 𝓛.H}
    {Λ : Loops 𝓤 𝓛.H} {q : Post 𝓤 𝓛.H} → K → {c : Operand} {a b : Body} {y : Bool} → Opd K 𝓛 Γ E c (vbool y)
    → (T y → Seq K 𝓛 Γ (runs C Λ E a (any_q (after_seq 𝓤 𝓛.H (Wp 𝓤 𝓛.H C Λ E b (post 𝓤 𝓛.H q)) (post 𝓤 𝓛.H q))))) → (T (not y) → Seq K 𝓛 Γ (runs C Λ E b q))
    → Seq K 𝓛 Γ (runs C Λ E (seq (cond c a skip) b) q)
unless t o held failed = first t $ branches t o held (λ z. skips t $ record { prf = (failed z).prf })

-- A `return` in such an a, where no loop runs.
pub gives : {M : Type 1} {𝓤 : Ura M} {𝓛 : Logic 𝓤} {K : Type 0} {Γ : List (Item 𝓤)} {E : Env 𝓤 𝓛.H} {C : Calls 𝓤 𝓛.H}
    {Λ : Loops 𝓤 𝓛.H} {go : SProp 𝓤} → K → (Kf : Val → SProp 𝓤) {r : Val} → Reads K 𝓛 Γ (spot_of 𝓤 𝓛.H E zero).0 (spot_of 𝓤 𝓛.H E zero).1 zero r
    → Step K 𝓛 Γ (frees E (prop (Kf r))) Γ (runs C Λ E return (any_q (after_seq 𝓤 𝓛.H go (at_return 𝓤 𝓛.H E Kf))))
gives t Kf rd = returns_within t Kf refl rd

module _ {M : Type 1} {𝓤 : Ura M} {𝓛 : Logic 𝓤} {K : Type 0} where
  open 𝓛 use {H}

  -- A loop, from the state x.
  pub looped : K → (ρ : Round 𝓤 H) {b : Body} → ((x : ρ.State) → Seq K 𝓛 (ρ.holds x) (Turn 𝓛 ρ x b)) → (x : ρ.State)
      → Seq K 𝓛 (ρ.holds x) (runs_in ρ (seq (block (loop b)) ρ.rest) (at_ret ρ.env ρ.aim))
  looped t ρ turn x = first t $ blocks t $ loops t ρ.tables (Falls ρ.measure) (falls_ends ρ.measure) ρ.holds turn x

  -- The turn has ended, and another begins at the state y.
  pub turns : K → (ρ : Round 𝓤 H) (x y : ρ.State) → Falls ρ.measure y x → Seq K 𝓛 (ρ.holds y) (prop (Turned 𝓛 ρ x next))
  unfolding after_turn
  turns t ρ x y less = again t (Falls ρ.measure) ρ.holds x y less

  module _ {Γ : List (Item 𝓤)} where
    -- The test of a `while`: the turn goes on, or the rest of the function runs.
    pub tested : K → (ρ : Round 𝓤 H) (x : ρ.State) {c : Operand} {b : Body} {y : Bool} → Opd K 𝓛 Γ ρ.env c (vbool y)
        → (T y → Seq K 𝓛 Γ (Turn 𝓛 ρ x b)) → (T (not y) → Seq K 𝓛 Γ (Rest ρ)) → Seq K 𝓛 Γ (Turn 𝓛 ρ x (seq (cond c skip (exit 1)) b))
    unfolding after_turn
    tested t ρ x o held failed = first t $ branches t o (λ z. skips t $ record { prf = (held z).prf }) (λ z. jumps t $ record { prf = (failed z).prf })

    -- `if c { break; }`, and then b.
    pub breaks : K → (ρ : Round 𝓤 H) (x : ρ.State) {c : Operand} {b : Body} {y : Bool} → Opd K 𝓛 Γ ρ.env c (vbool y)
        → (T y → Seq K 𝓛 Γ (Rest ρ)) → (T (not y) → Seq K 𝓛 Γ (Turn 𝓛 ρ x b)) → Seq K 𝓛 Γ (Turn 𝓛 ρ x (seq (cond c (exit 1) skip) b))
    unfolding after_turn
    breaks t ρ x o held failed = first t $ branches t o (λ z. jumps t $ record { prf = (held z).prf }) (λ z. skips t $ record { prf = (failed z).prf })

    -- `if c { v = a; return; }`, and then b: the return itself.
    pub gives_up : K → (ρ : Round 𝓤 H) (x : ρ.State) {go : SProp 𝓤} {r : Val} → Reads K 𝓛 Γ (spot_of 𝓤 H ρ.env zero).0 (spot_of 𝓤 H ρ.env zero).1 zero r
        → Step K 𝓛 Γ (frees ρ.env (prop (ρ.aim r))) Γ (runs_in ρ return (any_q (after_seq 𝓤 H go (Turned 𝓛 ρ x))))
    unfolding after_turn
    gives_up t ρ x rd = returns_within t ρ.aim refl rd
