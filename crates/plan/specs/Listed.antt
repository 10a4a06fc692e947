-- The listed plans.
use Rattle.std.specs.Prelude.{ℕ, cond, List, [], ◌∷◌, Some, None, Option, ◌==◌}
use Rattle.plan.specs.declared.listed.Listed.{Listed}
use Rattle.limits.specs.Numbers.{numbers_of}
use Rattle.plan.specs.declared.plan.Plan.{Plan}
use Rattle.plan.specs.Stacks.{Layout}

-- eleven numbers in their order
abbrev pub in_order : ℕ → ℕ → ℕ → ℕ → ℕ → ℕ → ℕ → ℕ → ℕ → ℕ → ℕ → List ℕ
in_order field root words k e seed check carrier rate a b = field ∷ root ∷ words ∷ k ∷ e ∷ seed ∷ check ∷ carrier ∷ rate ∷ a ∷ b ∷ []

-- a listed plan: its number, its eleven numbers and its unit
abbrev pub row : ℕ → List ℕ → ℕ → Listed
row n ns unit = record { 0 = n; 1 = ns; 2 = unit }

-- no plan
abbrev pub blank : Listed
blank = row 0 [] 0

-- a row of the LDACS coding tables: field 1, first root 02, the seed 4A80 hex, no check byte, on the line; so many words of k data bytes with e errors each, rate, a, b and unit
abbrev pub ldacs : ℕ → ℕ → ℕ → ℕ → ℕ → ℕ → ℕ → ℕ → Listed
ldacs n words k e rate a b unit = row n (in_order 1 1 words k e 0x4A80 0 1 rate a b) unit

-- every listed plan
unfoldable pub table : List Listed
table =
    row 1 (in_order 1 1 2 1 1 0 0 0 0 0 0) 2
    ∷ row 2 (in_order 2 120 6 72 10 0 0 0 0 0 0) 432
    ∷ row 3 (in_order 1 1 1 1 1 0 0 1 1 6 10) 1
    ∷ ldacs 16 1 66 4 1 43 28 66
    ∷ ldacs 17 1 125 7 1 40 56 125
    ∷ ldacs 18 6 91 5 1 132 74 91
    ∷ ldacs 19 9 91 5 1 111 132 91
    ∷ ldacs 20 6 120 7 2 132 74 120
    ∷ ldacs 21 9 120 7 2 111 132 120
    ∷ ldacs 22 6 135 8 3 132 74 135
    ∷ ldacs 23 9 135 8 3 111 132 135
    ∷ ldacs 24 6 182 10 1 132 148 182
    ∷ ldacs 25 9 182 10 1 132 222 182
    ∷ ldacs 26 12 121 7 2 132 148 242
    ∷ ldacs 28 12 136 8 1 132 222 272
    ∷ ldacs 30 12 183 10 2 132 222 366
    ∷ ldacs 32 12 206 11 3 132 222 412
    ∷ ldacs 36 1 14 1 1 67 4 14
    ∷ ldacs 37 1 28 2 1 67 8 14
    ∷ ldacs 38 1 42 3 1 67 12 14
    ∷ ldacs 39 1 56 5 1 67 16 14
    ∷ ldacs 40 1 70 6 1 67 20 14
    ∷ ldacs 41 1 84 7 1 67 24 14
    ∷ ldacs 42 1 98 9 1 67 28 14
    ∷ ldacs 43 1 112 10 1 67 32 14
    ∷ ldacs 44 1 126 12 1 67 36 14
    ∷ ldacs 45 1 140 13 1 67 40 14
    ∷ ldacs 46 1 19 1 2 67 4 19
    ∷ ldacs 47 1 38 2 2 67 8 19
    ∷ ldacs 48 1 57 4 2 67 12 19
    ∷ ldacs 49 1 76 6 2 67 16 19
    ∷ ldacs 50 1 95 7 2 67 20 19
    ∷ ldacs 51 1 114 9 2 67 24 19
    ∷ ldacs 52 1 133 11 2 67 28 19
    ∷ ldacs 53 1 152 12 2 67 32 19
    ∷ ldacs 54 1 171 14 2 67 36 19
    ∷ ldacs 55 1 190 16 2 67 40 19
    ∷ ldacs 56 1 22 1 3 67 4 22
    ∷ ldacs 57 1 44 2 3 67 8 22
    ∷ ldacs 58 1 66 4 3 67 12 22
    ∷ ldacs 59 1 88 5 3 67 16 22
    ∷ ldacs 60 1 110 7 3 67 20 22
    ∷ ldacs 61 1 132 9 3 67 24 22
    ∷ ldacs 62 1 154 10 3 67 28 22
    ∷ ldacs 63 1 176 12 3 67 32 22
    ∷ ldacs 64 1 198 13 3 67 36 22
    ∷ ldacs 65 1 220 15 3 67 40 22
    ∷ ldacs 66 1 28 2 1 67 8 28
    ∷ ldacs 67 1 56 5 1 67 16 28
    ∷ ldacs 68 1 84 7 1 67 24 28
    ∷ ldacs 69 1 112 10 1 67 32 28
    ∷ ldacs 70 1 140 13 1 67 40 28
    ∷ ldacs 71 1 168 16 1 67 48 28
    ∷ ldacs 73 1 39 2 2 67 8 39
    ∷ ldacs 74 1 78 5 2 67 16 39
    ∷ ldacs 75 1 117 8 2 67 24 39
    ∷ ldacs 76 1 156 10 2 67 32 39
    ∷ ldacs 77 1 195 13 2 67 40 39
    ∷ ldacs 78 1 45 2 1 67 12 45
    ∷ ldacs 79 1 90 4 1 67 24 45
    ∷ ldacs 80 1 135 7 1 67 36 45
    ∷ ldacs 81 1 180 10 1 67 48 45
    ∷ ldacs 82 1 225 12 1 67 60 45
    ∷ ldacs 83 1 60 3 2 67 12 60
    ∷ ldacs 84 1 120 6 2 67 24 60
    ∷ ldacs 85 1 180 10 2 67 36 60
    ∷ ldacs 86 1 66 4 3 67 12 66
    ∷ ldacs 87 1 132 9 3 67 24 66
    ∷ ldacs 88 1 198 13 3 67 36 66
    ∷ []

-- what a row lays out
abbrev pub layout_of : Listed → Layout
layout_of r = record { numbers = numbers_of r.1; unit = r.2 }

-- the plan with this number among rows
unfoldable pub among : List Listed → ℕ → Option Layout
among [] n = None
among (r ∷ rs) n = cond (r.0 == n) (Some (layout_of r)) (among rs n)

-- the listed plan with this number
abbrev pub listed : ℕ → Option Layout
listed n = among table n

-- what a plan lays out, if there is one
abbrev pub laid : Option Plan → Option Layout
laid None = None
laid (Some p) = Some (record { numbers = p.numbers; unit = p.unit })
