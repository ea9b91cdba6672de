-- When one model is a coarser picture of another.
use Rattle.std.specs.Prelude.{◌≡◌, ℕ, ◌<◌}
use Rattle.systems.specs.declared.kinds.Colour.TheVariants.{F, T}
use Rattle.systems.specs.Model.{Model, Surely, Possibly}

-- `of g s`: the state g of the model A stands for the state s of the model C.
-- What A says for sure holds in C, and what C may do is possible in A; of marks, those below P are compared.
pub record Abstracts (A C : Model) (P : ℕ) (of : ℕ → ℕ → Type 0) : Type 0 where
  pub sure_step : (g s h : ℕ) → of g s → Surely A g h → (t : ℕ) × Surely C s t × of h t
  pub possible_step : (g s t : ℕ) → of g s → Possibly C s t → (h : ℕ) × Possibly A g h × of h t
  pub mark_T : (g s p : ℕ) → p < P → of g s → A.mark g p ≡ T → C.mark s p ≡ T
  pub mark_F : (g s p : ℕ) → p < P → of g s → A.mark g p ≡ F → C.mark s p ≡ F
