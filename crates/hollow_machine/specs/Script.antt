-- What the machine answers to the lines of a script, one after another.
use Rattle.std.specs.Prelude.{◌≡◌, ◌<◌, ◌≤◌, ◌⊎◌, ◌^◌, ℕ, List, [], ◌∷◌, ◌++◌, length, Bool, true, false, if◌then◌else◌}
use Rattle.hol_orders.specs.declared.order.Order.{Order}
use Rattle.hol_answers.specs.declared.refusal.Refusal.TheVariants.{BadOrder, LineTooLong}
use Rattle.hol_answers.specs.declared.reply.Reply.{Reply}
use Rattle.hol_orders.specs.Order.{Orders}
use Rattle.hol_answers.specs.Reply.{is_refusal, line_of}
use Rattle.hollow_machine.specs.Forms.{Refuses}
use Rattle.hollow_machine.specs.State.{Machine}
use Rattle.hollow_machine.specs.Step.{Step}

-- How many bytes a line has at most.
abbrev pub longest_line : ℕ
longest_line = 2 ^ 26

-- The line is an order, and this is its answer and the machine behind it.
abbrev pub OrderStep : Machine → List ℕ → Reply → Machine → Type 0
OrderStep machine line reply next = (order : Order) × Orders line order × Step machine order reply next

-- What a line that is not too long is answered: that it is no order, or what the order is answered.
abbrev pub ShortStep : Machine → List ℕ → Reply → Machine → Type 0
ShortStep machine line reply next =
    (((order : Order) → ¬ Orders line order) × Refuses machine BadOrder reply next) ⊎ OrderStep machine line reply next

-- What a line is answered, and the machine behind it: that it is too long, or what it says.
abbrev pub LineStep : Machine → List ℕ → Reply → Machine → Type 0
LineStep machine line reply next =
    ((longest_line < length line) × Refuses machine LineTooLong reply next)
    ⊎ ((length line ≤ longest_line) × ShortStep machine line reply next)

-- The text is the answers to the lines, each a line with its newline; whether one of them is a refusal; and the machine
-- behind the last line.
abbrev pub Script : Machine → List (List ℕ) → List ℕ → Bool → Machine → Type 0
Script machine [] text refused next = (text ≡ []) × (refused ≡ false) × (next ≡ machine)
Script machine (line ∷ lines) text refused next =
    (reply : Reply) × (between : Machine) × (rest : List ℕ) × (others : Bool)
    × LineStep machine line reply between × Script between lines rest others next
    × (text ≡ line_of reply ++ rest) × (refused ≡ (if is_refusal reply then true else others))
