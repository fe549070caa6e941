-- How far a session has come.
use Rattle.std.specs.Prelude.{◌≡◌, ℕ, ◌+◌, List, length}
use Rattle.sessions.specs.declared.course.Course.{Course as CourseOf}
use Rattle.sessions.specs.Pace.{Pace}
use Rattle.sessions.specs.steps.Schedule.{pace_of}

-- the pace of its snapshots, how many forms were answered, and how many bytes of the input they took
pub record Course : Type 0 where
  pub pace : Pace
  pub forms : ℕ
  pub bytes : ℕ

-- how far a session has come, as the code keeps it
abbrev pub course_of : CourseOf → Course
course_of course = record { pace = pace_of course.schedule; forms = course.forms; bytes = course.bytes }

-- how far a session has come as it begins
abbrev pub first_course : Pace → Course
first_course pace = record { pace = pace; forms = 0; bytes = 0 }

-- how far a session has come with a form more, which took so many bytes
abbrev pub pass : ℕ → Course → Course
pass bytes course = record { pace = course.pace; forms = course.forms + 1; bytes = course.bytes + bytes }

-- how far a session has come with so many forms more, which took so many bytes
abbrev pub pass_all : ℕ → ℕ → Course → Course
pass_all forms bytes course = record { pace = course.pace; forms = course.forms + forms; bytes = course.bytes + bytes }

-- from one to the other so many forms of this text were answered, and this is left of it
pub record CourseComesOn (from to : Course) (forms : ℕ) (text left : List ℕ) : Type 0 where
  pub forms_are : to.forms ≡ forms + from.forms
  pub bytes_are : to.bytes + length left ≡ from.bytes + length text
