-- A falling column from one call to the next.
use Rattle.std.proofs.Common.{◌≡◌, ℕ, ◌+◌, ◌<◌, ◌≤◌, ◌≢◌, zero, suc, List, [], ◌∷◌, Some, None, map, get_or, sym, refl, ap, ◌∙◌, subst, arith}
use Rattle.queue.specs.Held.{held}
use Rattle.colouring.specs.declared.columns.Columns.{Columns}
use Rattle.colouring.specs.declared.notes.Note.{Note}
use Rattle.colouring.specs.declared.fall.FallingColumn.{FallingColumn}
use Rattle.colouring.specs.passes.Columns.{model}
use Rattle.colouring.specs.passes.Falling.{left_below, witnesses, trials, Falling, Fallen}
use Rattle.colouring.specs.passes.FallingColumns.{Same, Next, load, Looks, Falls, Rests}
use Rattle.colouring.proofs.Loans.{states_kept}
use Rattle.colouring.proofs.Falls.{falling_look, falling_skip, falling_pop, falling_waits, falling_done, falling_rest}

abbrev pub blank : Note
blank = record { witness = 0; tried = 0 }

-- what the note of a state says
pub noted : (f : Note → ℕ) (notes : List Note) (s : ℕ) → get_or (map f notes) s (f blank) ≡ f (get_or notes s blank)
noted f [] s = refl
noted f (n ∷ notes) zero = refl
noted f (n ∷ notes) (suc s) = noted f notes s

module _ (r r' : FallingColumn) (same : Same r r') (b₀ : List ℕ) where
  -- what is so of the new board, queue and notes, by the old columns
  renamed : (t : ℕ) (from : Columns → ℕ) → Falling r.columns (model r.columns) b₀ r'.board.now (held r'.queue.now) (witnesses r'.notes) (trials r'.notes) t (from r.columns)
      → Falling r'.columns (model r'.columns) b₀ r'.board.now (held r'.queue.now) (witnesses r'.notes) (trials r'.notes) t (from r'.columns)
  renamed t from i = subst (λ p. Falling p (model p) b₀ r'.board.now (held r'.queue.now) (witnesses r'.notes) (trials r'.notes) t (from p)) (sym same.columns) i

  pub falls_more : (t s : ℕ) → s < r.columns.states → Looks r r' s → Falls r b₀ t s → Falls r' b₀ t (s + 1)
  falls_more t s low looks i =
      let p = r.columns in
      renamed t (λ p. s + 1) (falling_look p (model p) b₀ r.fits.order p.every_state r.board.now r'.board.now (held r.queue.now) (held r'.queue.now)
      (witnesses r.notes) (witnesses r'.notes) (trials r.notes) (trials r'.notes) t s (omega (arith, p.every_state)) i looks.seen)

  pub next_falls : r'.notes ≡ r.notes → (t : ℕ) → Next r r' (Some t) → Rests r b₀ → Falls r' b₀ t 0
  next_falls notes t next i =
      let p = r.columns in
      let M = model p in
      let order = r.fits.order in
      let w = witnesses r.notes in
      let k = trials r.notes in
      let at = falling_waits p M b₀ order p.every_state r.board.now (held r.queue.now) (held r'.queue.now) w k next.0 t next.1 next.2 i in
      renamed t (λ p. 0)
      (subst (λ n. Falling p M b₀ r'.board.now (held r'.queue.now) (witnesses n) (trials n) t 0) (sym notes)
      (subst (λ b. Falling p M b₀ b (held r'.queue.now) w k t 0) (sym next.3)
      (falling_pop p M b₀ order p.every_state r.board.now (held r.queue.now) (held r'.queue.now) w k next.0 t next.1 at i)))

pub falls_skip : (r : FallingColumn) (b₀ : List ℕ) (t s : ℕ) → (get_or r.notes s blank).witness ≢ t → Falls r b₀ t s → Falls r b₀ t (s + 1)
falls_skip r b₀ t s other i =
    falling_skip r.columns (model r.columns) b₀ r.fits.order r.columns.every_state r.board.now (held r.queue.now) (witnesses r.notes) (trials r.notes) t s i
    (λ e. other (sym (noted (λ n. n.witness) r.notes s) ∙ e))

pub falls_all : (a r : FallingColumn) → Same a r → (b₀ : List ℕ) (t n : ℕ) → a.columns.states ≤ n → Falls r b₀ t n → Rests r b₀
falls_all a r same b₀ t n end i =
    falling_done r.columns (model r.columns) b₀ r.fits.order r.columns.every_state r.board.now (held r.queue.now) (witnesses r.notes) (trials r.notes) t n
    (omega (arith, states_kept same, r.columns.every_state)) i

pub load_more : (r r' : FallingColumn) → Same r r' → (s n : ℕ) → Looks r r' s → load r ≤ n → load r' ≤ n
load_more r r' same s n looks most = omega (arith, ap (λ p. left_below p r'.board.now) same.columns, looks.sum)

-- nothing waits: the board shows the release
pub rests_fallen : (a r r' : FallingColumn) → Same a r → Next r r' None → (b₀ : List ℕ) → Rests r b₀ → Fallen a.columns b₀ r'.board.now
rests_fallen a r r' same next b₀ i =
    let p = r.columns in
    let M = model p in
    let w = witnesses r.notes in
    let k = trials r.notes in
    let end : Falling p M b₀ r'.board.now [] w k 0 M.states =
    subst (λ b. Falling p M b₀ b [] w k 0 M.states) (sym next.2) (subst (λ h. Falling p M b₀ r.board.now h w k 0 M.states) next.0 i) in
    subst (λ p. Fallen p b₀ r'.board.now) same.columns
    (record { release = falling_rest p M b₀ r.fits.order p.every_state r'.board.now w k end; clean = end.clean; only = end.only })
