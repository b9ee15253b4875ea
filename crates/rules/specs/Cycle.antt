-- Phases and levels: the phases by name, and as tables by their numbers the level of each, the phase after each, and its place
-- in a collection.
use Rattle.std.specs.Prelude.{ℕ, List, [], ◌∷◌, get_or}

-- ---- the phases

abbrev pub at_rest : ℕ
at_rest = 0

abbrev pub at_pre_mark1 : ℕ
at_pre_mark1 = 1

abbrev pub at_pre_mark2 : ℕ
at_pre_mark2 = 2

abbrev pub at_root_mark : ℕ
at_root_mark = 3

abbrev pub at_heap_mark : ℕ
at_heap_mark = 4

abbrev pub at_allocate : ℕ
at_allocate = 5

abbrev pub at_pre_copy : ℕ
at_pre_copy = 6

abbrev pub at_copy : ℕ
at_copy = 7

abbrev pub at_pre_flip1 : ℕ
at_pre_flip1 = 8

abbrev pub at_pre_flip2 : ℕ
at_pre_flip2 = 9

abbrev pub at_root_flip : ℕ
at_root_flip = 10

abbrev pub at_stack_flip : ℕ
at_stack_flip = 11

abbrev pub at_reclaim : ℕ
at_reclaim = 12

-- how many there are, and the highest number
abbrev pub phase_count : ℕ
phase_count = 13

abbrev pub last_phase : ℕ
last_phase = 12

-- ---- the tables

-- "The level of each phase is a fixed table"
abbrev pub levels : List ℕ
levels = 0 ∷ 1 ∷ 2 ∷ 2 ∷ 2 ∷ 3 ∷ 4 ∷ 4 ∷ 5 ∷ 6 ∷ 6 ∷ 6 ∷ 0 ∷ []

unfoldable pub level_of : ℕ → ℕ
level_of phase = get_or levels phase 0

-- the phase after each: "it moves to the next phase (12 to 0)"
abbrev pub followers : List ℕ
followers =
    at_pre_mark1 ∷ at_pre_mark2 ∷ at_root_mark ∷ at_heap_mark ∷ at_allocate ∷ at_pre_copy ∷ at_copy ∷ at_pre_flip1 ∷ at_pre_flip2
    ∷ at_root_flip ∷ at_stack_flip ∷ at_reclaim ∷ at_rest ∷ []

unfoldable pub next_phase : ℕ → ℕ
next_phase phase = get_or followers phase at_rest

-- the place of each in the order in which a collection goes through them, from 0
abbrev pub stages : List ℕ
stages = 0 ∷ 1 ∷ 2 ∷ 3 ∷ 4 ∷ 5 ∷ 6 ∷ 7 ∷ 8 ∷ 9 ∷ 10 ∷ 11 ∷ 12 ∷ []

unfoldable pub stage : ℕ → ℕ
stage phase = get_or stages phase 0
