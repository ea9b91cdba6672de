-- A rising column from one call to the next.
use Rattle.std.proofs.Common.{◌≡◌, ℕ, ◌+◌, ◌<◌, ◌≤◌, List, [], Some, None, sym, ap, ◌∙◌, subst, arith}
use Rattle.systems.specs.declared.kinds.Colour.{Colour}
use Rattle.colours.specs.Values.{meet, rated}
use Rattle.queue.specs.Held.{held}
use Rattle.colouring.specs.declared.columns.Columns.{Columns}
use Rattle.colouring.specs.declared.rise.RisingColumn.{RisingColumn}
use Rattle.colouring.specs.passes.Columns.{model, column}
use Rattle.colouring.specs.passes.Rising.{left_above, passed, Rising, Risen}
use Rattle.colouring.specs.passes.RisingColumns.{Same, load, Next, Lifts, Starts, Rises, Rests}
use Rattle.colouring.proofs.Placing.{part_same}
use Rattle.colouring.proofs.Loans.{states_kept}
use Rattle.colouring.proofs.Rises.{rising_start, rising_step, rising_pop, rising_waits, rising_done, rising_rest}

module _ (r r' : RisingColumn) (same : Same r r') (b₀ : List ℕ) where
  -- what is so of the new board and queue, by the old columns
  renamed : (started t from : (Columns → ℕ)) → Rising r.columns (model r.columns) b₀ r'.board.now (held r'.queue.now) (started r.columns) (t r.columns) (from r.columns)
      → Rising r'.columns (model r'.columns) b₀ r'.board.now (held r'.queue.now) (started r'.columns) (t r'.columns) (from r'.columns)
  renamed started t from i = subst (λ p. Rising p (model p) b₀ r'.board.now (held r'.queue.now) (started p) (t p) (from p)) (sym same.columns) i

  pub starts_more : (s : ℕ) (v : Colour) → s < r.columns.states → Lifts r r' s v → v ≡ column r.columns r.board.now r.columns.right s → Starts r b₀ s → Starts r' b₀ (s + 1)
  starts_more s v low lifts e i =
      let p = r.columns in
      let order = r.fits.order in
      renamed (λ p. s + 1) (λ p. 0) (λ p. (model p).states)
      (rising_start p (model p) b₀ order p.every_state r.board.now r'.board.now (held r.queue.now) (held r'.queue.now) s v (omega (arith, p.every_state)) lifts
      (e ∙ part_same p b₀ r.board.now order.whole i.only p.right s order.right) i)

  pub rises_more : (s t : ℕ) → s < r.columns.states → t < r.columns.states
      → Lifts r r' s (passed (model r.columns) (column r.columns r.board.now r.columns.left) (column r.columns r.board.now r.columns.whole) s t)
      → Rises r b₀ t s → Rises r' b₀ t (s + 1)
  rises_more s t low below lifts i =
      let p = r.columns in
      let M = model p in
      let order = r.fits.order in
      renamed (λ p. (model p).states) (λ p. t) (λ p. s + 1)
      (rising_step p M b₀ order p.every_state r.board.now r'.board.now (held r.queue.now) (held r'.queue.now) s _ (omega (arith, p.every_state)) lifts t (omega (arith, p.every_state))
      (ap (λ z. meet z (meet (rated (M.step s t)) (column p r.board.now p.whole t))) (part_same p b₀ r.board.now order.whole i.only p.left s order.left)) i)

  pub next_low : (t : ℕ) → Next r r' (Some t) → Rests r b₀ → t < r.columns.states
  next_low t next i =
      let p = r.columns in
      let at = rising_waits p (model p) b₀ r.fits.order p.every_state r.board.now (held r.queue.now) (held r'.queue.now) next.0 t (model p).states next.1 next.2 i in
      omega (arith, p.every_state, at.1)

  pub next_rises : (t : ℕ) → Next r r' (Some t) → Rests r b₀ → Rises r' b₀ t 0
  next_rises t next i =
      let p = r.columns in
      let M = model p in
      let order = r.fits.order in
      let at = rising_waits p M b₀ order p.every_state r.board.now (held r.queue.now) (held r'.queue.now) next.0 t M.states next.1 next.2 i in
      renamed (λ p. (model p).states) (λ p. t) (λ p. 0)
      (subst (λ b. Rising p M b₀ b (held r'.queue.now) M.states t 0) (sym next.3)
      (rising_pop p M b₀ order p.every_state r.board.now (held r.queue.now) (held r'.queue.now) next.0 t next.1 at.0 i))

pub load_more : (r r' : RisingColumn) → Same r r' → (s : ℕ) (v : Colour) (n : ℕ) → Lifts r r' s v → load r ≤ n → load r' ≤ n
load_more r r' same s v n lifts most = omega (arith, ap (λ p. left_above p r'.board.now) same.columns, lifts.sum)

-- nothing waits: the board shows the until
pub rests_risen : (a r r' : RisingColumn) → Same a r → Next r r' None → (b₀ : List ℕ) → Rests r b₀ → Risen a.columns b₀ r'.board.now
rests_risen a r r' same next b₀ i =
    let p = r.columns in
    let M = model p in
    let end : Rising p M b₀ r'.board.now [] M.states 0 M.states =
    subst (λ b. Rising p M b₀ b [] M.states 0 M.states) (sym next.2) (subst (λ h. Rising p M b₀ r.board.now h M.states 0 M.states) next.0 i) in
    subst (λ p. Risen p b₀ r'.board.now) same.columns
    (record { until = rising_rest p M b₀ r.fits.order p.every_state r'.board.now end; clean = end.clean; only = end.only })

module _ (a r : RisingColumn) (same : Same a r) (b₀ : List ℕ) (n : ℕ) (end : a.columns.states ≤ n) where
  pub starts_all : n ≤ a.columns.states → Starts r b₀ n → Rests r b₀
  starts_all most i =
      let e : n ≡ (model r.columns).states = omega (arith, states_kept same, r.columns.every_state) in
      subst (λ n. Starts r b₀ n) e i

  pub rises_all : (t : ℕ) → Rises r b₀ t n → Rests r b₀
  rises_all t i = rising_done r.columns (model r.columns) b₀ r.fits.order r.columns.every_state r.board.now (held r.queue.now) t n (omega (arith, states_kept same, r.columns.every_state)) i
